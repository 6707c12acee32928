-- Small specifications, by which the meaning is seen.
use Rattle.std.specs.Prelude.{◌≡◌, ℕ, ◌-◌, ◌^◌, List, [], ◌∷◌, Some, None, true, codes}
use Rattle.target_code.specs.declared.tree.Calc.TheVariants as c
use Rattle.target_code.specs.declared.tree.Rep.{Rep}
use Rattle.target_code.specs.declared.tree.Rep.TheVariants as r
use Rattle.nres_core.specs.Tree as t
use Rattle.nres_core.specs.Tree.{Exp, Exps, Blk, Steps, Bod, Whole, Word}
use Rattle.nres_core.specs.declared.place.Named.{Named}
use Rattle.nres_core.specs.declared.place.Place.{Place}
use Rattle.nres_core.specs.declared.tree.Spec.{Spec}
use Rattle.nres_core.specs.declared.tree.With.{With}
use Rattle.nres_core.specs.declared.value.Value.{Value}
use Rattle.nres_core.specs.declared.value.Value.TheVariants as v
use Rattle.nres_core.specs.Runs.{Gives}
use Rattle.nres_core.specs.Samples.{first_text, first_tree}
use Rattle.nres_core.specs.Texts.{SpecText}
use Rattle.nres_meaning.specs.Allowed.{AllowedBy, FailsBy, EndsBy, Allows, CanFail, spec_runs}

-- places say nothing here
abbrev pub here : Place
here = record { line = 1; column = 1 }

abbrev pub named : List ℕ → Named
named x = record { name = x; place = here }

abbrev pub var : List ℕ → Exp Word
var x = t.Var (named x)

abbrev pub list_of : List (Exp Word) → Exps Word
list_of [] = t.None_left
list_of (e ∷ es) = t.Also e (list_of es)

abbrev pub word_on : List ℕ → List (Exp Word) → Exp Word
word_on w es = t.Apply here (w, None) (list_of es) None

abbrev pub made_on : List ℕ → List (Exp Word) → Rep → Exp Word
made_on w es rep = t.Apply here (w, Some rep) (list_of es) (Some (record { rep = rep; place = here }))

abbrev pub value : List ℕ → Exp Word → Steps Word → Steps Word
value x e ss = t.Bind (named x ∷ []) here (t.Value e) ss

abbrev pub returning : Steps Word → List (Exp Word) → Blk Word
returning ss es = t.Returns ss here (list_of es)

abbrev pub program : List Named → Blk Word → Whole Word
program xs b = record { params = xs; body = b; procs = [] }

-- x <- get xs 0, return x
abbrev pub first_spec : Whole Word
first_spec = program (named (codes "xs") ∷ []) (returning (value (codes "x") (word_on (codes "get") (var (codes "xs") ∷ t.Num here 0 ∷ [])) t.No_step) (var (codes "x") ∷ []))

-- return 1
abbrev pub one_spec : Whole Word
one_spec = program [] (returning t.No_step (t.Num here 1 ∷ []))

-- return a + 1
abbrev pub over_spec : Whole Word
over_spec = program (named (codes "a") ∷ []) (returning t.No_step (t.Binary here c.Add (var (codes "a")) (t.Num here 1) ∷ []))

-- z <- either a <- zeros 2 as vec, return a, or b <- nil as vec, return b, end, return z
abbrev pub choice_spec : Whole Word
choice_spec = program [] (returning
    (t.Bind (named (codes "z") ∷ []) here (t.Either here
    (returning (value (codes "a") (made_on (codes "zeros") (t.Num here 2 ∷ []) r.Vec) t.No_step) (var (codes "a") ∷ []))
    (returning (value (codes "b") (made_on (codes "nil") [] r.Vec) t.No_step) (var (codes "b") ∷ []))) t.No_step)
    (var (codes "z") ∷ []))

-- z <- while z from 0 if true do return z end, return z
abbrev pub spin_spec : Whole Word
spin_spec = program [] (returning
    (t.Bind (named (codes "z") ∷ []) here (t.While here (named (codes "z") ∷ []) here (list_of (t.Num here 0 ∷ [])) (t.Truth here true) (returning t.No_step (var (codes "z") ∷ []))) t.No_step)
    (var (codes "z") ∷ []))

-- one turn: x <- get xs i, assert x < 1000, t <- insert s x, return (i + 1, t)
abbrev pub dedup_turn : Blk Word
dedup_turn = returning
    (value (codes "x") (word_on (codes "get") (var (codes "xs") ∷ var (codes "i") ∷ []))
    (t.Assert here (t.Binary here c.Lt (var (codes "x")) (t.Num here 1000))
    (value (codes "t") (word_on (codes "insert") (var (codes "s") ∷ var (codes "x") ∷ [])) t.No_step)))
    (t.Binary here c.Add (var (codes "i")) (t.Num here 1) ∷ var (codes "t") ∷ [])

-- s0 <- empty as bits 1000, n <- len xs, (i, s) <- while (i, s) from (0, s0) if i < n do .. end, return s
abbrev pub dedup_spec : Whole Word
dedup_spec = program (named (codes "xs") ∷ []) (returning
    (value (codes "s0") (made_on (codes "empty") [] (r.Bits 1000))
    (value (codes "n") (word_on (codes "len") (var (codes "xs") ∷ []))
    (t.Bind (named (codes "i") ∷ named (codes "s") ∷ []) here
    (t.While here (named (codes "i") ∷ named (codes "s") ∷ []) here (list_of (t.Num here 0 ∷ var (codes "s0") ∷ [])) (t.Binary here c.Lt (var (codes "i")) (var (codes "n"))) dedup_turn)
    t.No_step)))
    (var (codes "s") ∷ []))

abbrev pub numbers : List ℕ → List Value
numbers xs = v.List xs ∷ []

-- what these specifications allow, and where they can fail
pub record Seen : Type 0 where
  pub one_allows : (n : ℕ) → Gives (spec_runs one_spec [] n) (v.Nat 1 ∷ [])
  pub one_no_more : ¬ AllowedBy (spec_runs one_spec []) (v.Nat 2 ∷ [])
  pub first_allows : AllowedBy (spec_runs first_spec (numbers (1 ∷ 2 ∷ []))) (v.Nat 1 ∷ [])
  pub first_no_more : ¬ AllowedBy (spec_runs first_spec (numbers (1 ∷ 2 ∷ []))) (v.Nat 2 ∷ [])
  pub first_fails : FailsBy (spec_runs first_spec (numbers []))
  pub over_fails : FailsBy (spec_runs over_spec (v.Nat (2 ^ 64 - 1) ∷ []))
  pub over_stays : ¬ FailsBy (spec_runs over_spec (v.Nat 0 ∷ []))
  pub choice_left : AllowedBy (spec_runs choice_spec []) (numbers (0 ∷ 0 ∷ []))
  pub choice_right : AllowedBy (spec_runs choice_spec []) (numbers [])
  pub choice_no_more : ¬ AllowedBy (spec_runs choice_spec []) (numbers (0 ∷ []))
  pub spin_stays : ¬ FailsBy (spec_runs spin_spec [])
  pub spin_gives_nothing : (vs : List Value) → ¬ AllowedBy (spec_runs spin_spec []) vs
  pub spin_goes_on : (n : ℕ) → ¬ EndsBy (spec_runs spin_spec []) n
  pub dedup_stays : ¬ FailsBy (spec_runs dedup_spec (numbers (3 ∷ 1 ∷ 3 ∷ [])))

-- what the text `first` allows, and that it can fail
pub record FirstSeen : Type 0 where
  pub allows : Allows first_tree (numbers (1 ∷ 2 ∷ [])) (v.Nat 1 ∷ [])
  pub no_more : ¬ Allows first_tree (numbers (1 ∷ 2 ∷ [])) (v.Nat 2 ∷ [])
  pub can_fail : CanFail first_tree (numbers [])

-- the text `first` has no other tree
abbrev pub OneTree : Type 0
OneTree = (p : Spec) (ws : List With) → SpecText first_text p ws → (p ≡ first_tree) × (ws ≡ [])
