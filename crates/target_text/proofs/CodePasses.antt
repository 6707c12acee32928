-- The lines of code whose registers are there, whose calls are met and whose targets are distinct pass their tests.
use Rattle.std.proofs.Common.{◌≡◌, ℕ, suc, ◌&&◌, Bool, true, nat_lt, nat_le, nat_eq, List, [], ◌∷◌, ◌++◌, map, Some, refl, sym, subst, ◌∙◌, arith}
use Rattle.std.specs.List.{AllByRecursion}
use Rattle.std.specs.Cmp.Derive.{both_true}
use Rattle.std.proofs.lemmas.Bool.{ltb-true, le-leb}
use Rattle.target_code.specs.declared.tree.Branch.{Branch}
use Rattle.target_code.specs.declared.tree.Code.{Code, out-Code, roll-Code}
use Rattle.target_code.specs.declared.tree.Instr.{Instr, out-Instr}
use Rattle.target_code.specs.declared.tree.Instr.TheOpen as Open
use Rattle.target_code.specs.declared.tree.Instr.TheViews.{roll-Instr, out-roll-Instr, out-roll-Code}
use Rattle.target_code.specs.declared.tree.Instr.TheFolds.{map-Instr, map-Code, ind-Code}
use Rattle.target_code.specs.declared.tree.Proc.{Proc}
use Rattle.target_code.specs.Reserved.{are_distinct}
use Rattle.target_code.specs.Lines as tests
use Rattle.target_lines.specs.declared.line.Line.{Line}
use Rattle.target_lines.specs.declared.line.Phrase.TheVariants as phrase
use Rattle.target_lines.proofs.Pieces.{and_parts}
use Rattle.target_lines.specs.Programs.{line, instr_lines, code_lines, items_lines, is_flat}
use Rattle.target_judge.specs.Told.{Kind}
use Rattle.target_judge.specs.Judging.{instr_tells, instr_fits, code_fits, code_tells, next_width}
use Rattle.target_text.proofs.Passing.{IsCode, AreCode, AreOf}
use Rattle.target_text.proofs.CodeLines.{layer, flat_at}
use Rattle.target_text.proofs.ShapesBack.{code_out, lines_roll}
use Rattle.target_text.proofs.FormedLines.{passes_out, passes_roll}

-- what is known of an instruction, and of a list: its registers are there, its calls are met, and its targets are distinct
record Knows (b m d : Bool) : Type 0 where
  below : b ≡ true
  met : m ≡ true
  distinct : d ≡ true

knows_parts : (a b c x y z : Bool) → Knows (a && x) (b && y) (c && z) → Knows a b c × Knows x y z
knows_parts a b c x y z k =
    let below = and_parts a x k.below in
    let met = and_parts b y k.met in
    let distinct = and_parts c z k.distinct in
    (record { below = below.0; met = met.0; distinct = distinct.0 }, record { below = below.1; met = met.1; distinct = distinct.1 })

code_append : (numbers : Kind → List ℕ → ℕ) (regs : ℕ) (name : List ℕ) (xs ys : List Line) → AreCode numbers regs name xs → AreCode numbers regs name ys → AreCode numbers regs name (xs ++ ys)
code_append numbers regs name [] ys h k = k
code_append numbers regs name (x ∷ xs) ys h k = (h.0, code_append numbers regs name xs ys h.1 k)

-- a procedure of a program
record Place : Type 0 where
  numbers : Kind → List ℕ → ℕ
  procs : List Proc
  regs : ℕ
  name : List ℕ
  are : AreOf numbers procs

abbrev KnowsInstr : Place → Instr → Type 0
KnowsInstr p i = Knows (tests.instr_passes (tests.is_below p.regs) i) (tests.instr_passes (tests.calls_met p.procs) i) (tests.instr_passes tests.has_distinct_targets i)

abbrev KnowsCode : Place → Code → Type 0
KnowsCode p c = Knows (tests.code_passes (tests.is_below p.regs) c) (tests.code_passes (tests.calls_met p.procs) c) (tests.code_passes tests.has_distinct_targets c)

abbrev KnowsList : Place → List Instr → Type 0
KnowsList p xs = Knows (tests.all_true (map (tests.instr_passes (tests.is_below p.regs)) xs)) (tests.all_true (map (tests.instr_passes (tests.calls_met p.procs)) xs)) (tests.all_true (map (tests.instr_passes tests.has_distinct_targets) xs))

abbrev Fine : Place → List Line → Type 0
Fine p ls = AreCode p.numbers p.regs p.name ls

abbrev Passes : Place → Instr → Type 0
Passes p i = KnowsInstr p i → (n : ℕ) → Fine p (instr_lines i n)

abbrev ListPasses : Place → List Instr → Type 0
ListPasses p xs = KnowsList p xs → (n : ℕ) → Fine p (items_lines n xs)

abbrev CodePasses : Place → Code → Type 0
CodePasses p c = KnowsCode p c → (n : ℕ) → Fine p (code_lines c n)

abbrev answer : (test : tests.Layer → Bool) → Open.Instr-F Instr Code → Bool
answer test x = tests.line_step test (map-Instr Instr Code Bool Bool (tests.instr_passes test) (tests.code_passes test) x)

abbrev KnowsLayer : Place → Open.Instr-F Instr Code → Type 0
KnowsLayer p x = Knows (answer (tests.is_below p.regs) x) (answer (tests.calls_met p.procs) x) (answer tests.has_distinct_targets x)

knows_roll : (p : Place) (x : Open.Instr-F Instr Code) → KnowsInstr p (roll-Instr x) → KnowsLayer p x
knows_roll p x k = record {
  below = sym (passes_roll (tests.is_below p.regs) x) ∙ k.below;
  met = sym (passes_roll (tests.calls_met p.procs) x) ∙ k.met;
  distinct = sym (passes_roll tests.has_distinct_targets x) ∙ k.distinct;
}

list_code : (p : Place) (c : Code) → ListPasses p (out-Code c).list → CodePasses p c
list_code p c h k n =
    subst (λ (ls : List Line). Fine p ls) (sym (code_out c n)) (h (record {
      below = sym (passes_out (tests.is_below p.regs) c) ∙ k.below;
      met = sym (passes_out (tests.calls_met p.procs) c) ∙ k.met;
      distinct = sym (passes_out tests.has_distinct_targets c) ∙ k.distinct;
    }) n)

-- a line that tells nothing
quiet : (p : Place) (l : Line) → code_fits l.phrase p.regs ≡ true → code_tells l.phrase p.name ≡ [] → ((w : ℕ) → next_width l.phrase w ≡ Some w) → IsCode p.numbers p.regs p.name l
quiet p l fits none narrow = record { fits = fits; tells = subst (λ xs. AllByRecursion (λ x. p.numbers x.kind x.name ≡ x.number) xs) (sym none) tt; narrow = narrow }

blocks_fine : (p : Place) (a b c : Line) (xs ys : List Line) → IsCode p.numbers p.regs p.name a → Fine p xs → IsCode p.numbers p.regs p.name b → Fine p ys → IsCode p.numbers p.regs p.name c → Fine p (a ∷ (xs ++ (b ∷ (ys ++ c ∷ []))))
blocks_fine p a b c xs ys h i j k l = (h, code_append p.numbers p.regs p.name xs (b ∷ (ys ++ c ∷ [])) i (j, code_append p.numbers p.regs p.name ys (c ∷ []) k (l, tt)))

-- what the two blocks of an instruction know
blocks_know : (a b x y u v w : Bool) (s t r : Bool) → Knows (s && (a && x)) (t && (b && y)) (r && (u && v)) → Knows a b u × Knows x y v
blocks_know a b x y u v w s t r k =
    knows_parts a b u x y v (record { below = (and_parts s (a && x) k.below).1; met = (and_parts t (b && y) k.met).1; distinct = (and_parts r (u && v) k.distinct).1 })

some_register : (t regs : ℕ) → nat_lt t regs ≡ true → nat_le 1 regs ≡ true
some_register t regs h = le-leb 1 regs (omega (arith, ltb-true t regs h))

if_passes : (p : Place) (t : ℕ) (c d : Code) → CodePasses p c → CodePasses p d → Passes p (roll-Instr (Open.If t c d))
unfolding layer
if_passes p t c d first other known n =
    let k = knows_roll p (Open.If t c d) known in
    let test = (and_parts (nat_lt t p.regs) (tests.code_passes (tests.is_below p.regs) c && tests.code_passes (tests.is_below p.regs) d) k.below).0 in
    let both = blocks_know (tests.code_passes (tests.is_below p.regs) c) (tests.code_passes (tests.calls_met p.procs) c) (tests.code_passes (tests.is_below p.regs) d) (tests.code_passes (tests.calls_met p.procs) d) (tests.code_passes tests.has_distinct_targets c) (tests.code_passes tests.has_distinct_targets d) true (nat_lt t p.regs) true true k in
    subst (λ (ls : List Line). Fine p ls) (sym (lines_roll (Open.If t c d) n))
    (blocks_fine p (line n (phrase.If t)) (line n phrase.Else) (line n phrase.End) (code_lines c (suc n)) (code_lines d (suc n))
    (quiet p (line n (phrase.If t)) test refl (λ w. refl)) (first both.0 (suc n)) (quiet p (line n phrase.Else) refl refl (λ w. refl)) (other both.1 (suc n)) (quiet p (line n phrase.End) refl refl (λ w. refl)))

while_passes : (p : Place) (c : Code) (t : ℕ) (d : Code) → CodePasses p c → CodePasses p d → Passes p (roll-Instr (Open.While c t d))
unfolding layer
while_passes p c t d first other known n =
    let k = knows_roll p (Open.While c t d) known in
    let test = (and_parts (nat_lt t p.regs) (tests.code_passes (tests.is_below p.regs) c && tests.code_passes (tests.is_below p.regs) d) k.below).0 in
    let both = blocks_know (tests.code_passes (tests.is_below p.regs) c) (tests.code_passes (tests.calls_met p.procs) c) (tests.code_passes (tests.is_below p.regs) d) (tests.code_passes (tests.calls_met p.procs) d) (tests.code_passes tests.has_distinct_targets c) (tests.code_passes tests.has_distinct_targets d) true (nat_lt t p.regs) true true k in
    subst (λ (ls : List Line). Fine p ls) (sym (lines_roll (Open.While c t d) n))
    (blocks_fine p (line n phrase.While) (line n (phrase.Do t)) (line n phrase.End) (code_lines c (suc n)) (code_lines d (suc n))
    (quiet p (line n phrase.While) (some_register t p.regs test) refl (λ w. refl)) (first both.0 (suc n)) (quiet p (line n (phrase.Do t)) test refl (λ w. refl)) (other both.1 (suc n)) (quiet p (line n phrase.End) refl refl (λ w. refl)))

-- an instruction of one line
record FineLayer (p : Place) (x : Open.Instr-F Instr Code) : Type 0 where
  fits : (tests.is_below p.regs x && instr_fits x) ≡ true
  tells : AllByRecursion (λ f. p.numbers f.kind f.name ≡ f.number) (instr_tells x)

flat_passes : (p : Place) (x : Open.Instr-F Instr Code) → is_flat x ≡ true → (KnowsLayer p x → FineLayer p x) → Passes p (roll-Instr x)
flat_passes p x flat fine known n =
    let one : instr_lines (roll-Instr x) n ≡ line n (phrase.Plain (roll-Instr x)) ∷ [] = lines_roll x n ∙ flat_at x n flat in
    let here : FineLayer p (out-Instr (roll-Instr x)) = subst (FineLayer p) (sym (out-roll-Instr x)) (fine (knows_roll p x known)) in
    subst (λ (ls : List Line). Fine p ls) (sym one) (record { fits = here.fits; tells = here.tells; narrow = λ w. refl }, tt)

call_fine : (p : Place) (to name args : List ℕ) → KnowsLayer p (Open.Call to name args) → FineLayer p (Open.Call to name args)
call_fine p to name args k =
    let below = (and_parts (tests.all_below p.regs to && tests.all_below p.regs args) true k.below).0 in
    let met = p.are name args to (and_parts (tests.some_answers p.procs name args to) true k.met).0 in
    let distinct = (and_parts (are_distinct nat_eq to) true k.distinct).0 in
    record { fits = both_true below (both_true (both_true met.named met.few) distinct); tells = (met.takes, (met.gives, tt)) }

par_fine : (p : Place) (l r : Branch) → KnowsLayer p (Open.Par l r) → FineLayer p (Open.Par l r)
par_fine p l r k =
    let below = (and_parts (tests.branch_below p.regs l && tests.branch_below p.regs r) true k.below).0 in
    let met = and_parts (tests.some_answers p.procs l.proc l.args l.to) (tests.some_answers p.procs r.proc r.args r.to) (and_parts (tests.some_answers p.procs l.proc l.args l.to && tests.some_answers p.procs r.proc r.args r.to) true k.met).0 in
    let left = p.are l.proc l.args l.to met.0 in
    let right = p.are r.proc r.args r.to met.1 in
    let distinct = (and_parts (are_distinct nat_eq (l.to ++ r.to)) true k.distinct).0 in
    record { fits = both_true below (both_true (both_true left.named left.few) (both_true (both_true right.named right.few) distinct)); tells = (left.takes, (left.gives, (right.takes, (right.gives, tt)))) }

abbrev SomePasses : Place → Type 0
SomePasses p = (i : Instr) × Passes p i

abbrev SomeCode : Place → Type 0
SomeCode p = (c : Code) × CodePasses p c

each_instr : (p : Place) (y : Open.Instr-F (SomePasses p) (SomeCode p)) → Passes p (roll-Instr (map-Instr (SomePasses p) (SomeCode p) Instr Code (λ e. e.0) (λ e. e.0) y))
each_instr p (Open.If t c d) = if_passes p t c.0 d.0 c.1 d.1
each_instr p (Open.While c t d) = while_passes p c.0 t d.0 c.1 d.1
each_instr p (Open.Const to v) = flat_passes p (Open.Const to v) refl (λ k. record { fits = k.below; tells = tt })
each_instr p (Open.Mov to from) = flat_passes p (Open.Mov to from) refl (λ k. record { fits = k.below; tells = tt })
each_instr p (Open.Calc to c l r) = flat_passes p (Open.Calc to c l r) refl (λ k. record { fits = k.below; tells = tt })
each_instr p (Open.Load to b i) = flat_passes p (Open.Load to b i) refl (λ k. record { fits = k.below; tells = tt })
each_instr p (Open.Store b i v) = flat_passes p (Open.Store b i v) refl (λ k. record { fits = k.below; tells = tt })
each_instr p (Open.Alloc to len) = flat_passes p (Open.Alloc to len) refl (λ k. record { fits = k.below; tells = tt })
each_instr p (Open.Free b) = flat_passes p (Open.Free b) refl (λ k. record { fits = k.below; tells = tt })
each_instr p (Open.Call to name args) = flat_passes p (Open.Call to name args) refl (call_fine p to name args)
each_instr p (Open.Par l r) = flat_passes p (Open.Par l r) refl (par_fine p l r)

all_pass : (p : Place) (ys : List (SomePasses p)) → ListPasses p (map (λ e. e.0) ys)
all_pass p [] k n = tt
all_pass p (y ∷ ys) k n =
    let xs = map (λ (e : SomePasses p). e.0) ys in
    let parts = knows_parts (tests.instr_passes (tests.is_below p.regs) y.0) (tests.instr_passes (tests.calls_met p.procs) y.0) (tests.instr_passes tests.has_distinct_targets y.0) (tests.all_true (map (tests.instr_passes (tests.is_below p.regs)) xs)) (tests.all_true (map (tests.instr_passes (tests.calls_met p.procs)) xs)) (tests.all_true (map (tests.instr_passes tests.has_distinct_targets) xs)) k in
    code_append p.numbers p.regs p.name (instr_lines y.0 n) (items_lines n xs) (y.1 parts.0 n) (all_pass p ys parts.1 n)

each_code : (p : Place) (y : Open.Code-F (SomePasses p) (SomeCode p)) → CodePasses p (roll-Code (map-Code (SomePasses p) (SomeCode p) Instr Code (λ e. e.0) (λ e. e.0) y))
each_code p y =
    let z = map-Code (SomePasses p) (SomeCode p) Instr Code (λ e. e.0) (λ e. e.0) y in
    list_code p (roll-Code z) (subst (λ (x : Open.Code-F Instr Code). ListPasses p x.list) (sym (out-roll-Code z)) (all_pass p y.list))

pub code_passes_tests : (numbers : Kind → List ℕ → ℕ) (procs : List Proc) (regs : ℕ) (name : List ℕ) → AreOf numbers procs → (c : Code)
    → tests.code_passes (tests.is_below regs) c ≡ true → tests.code_passes (tests.calls_met procs) c ≡ true → tests.code_passes tests.has_distinct_targets c ≡ true
    → (n : ℕ) → AreCode numbers regs name (code_lines c n)
code_passes_tests numbers procs regs name are c below met distinct =
    let p : Place = record { numbers = numbers; procs = procs; regs = regs; name = name; are = are } in
    ind-Code (Passes p) (CodePasses p)
    (λ z y e. subst (λ (z : Open.Instr-F Instr Code). Passes p (roll-Instr z)) e (each_instr p y))
    (λ z y e. subst (λ (z : Open.Code-F Instr Code). CodePasses p (roll-Code z)) e (each_code p y)) c (record { below = below; met = met; distinct = distinct })
