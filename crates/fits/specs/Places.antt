-- What is known at a place of a program: the tokens of registers, and the entries of variables.
use Rattle.std.specs.Prelude.{ℕ, zero, suc, ◌^◌, nat_lt, nat_le, nat_eq, Bool, true, false, ◌&&◌, ◌||◌, not, cond, List, [], ◌∷◌, ◌++◌, Option, Some, None}
use Rattle.target_code.specs.Reps.{width}
use Rattle.target_code.specs.declared.tree.Rep.{Rep}
use Rattle.target_code.specs.declared.tree.Rep.TheVariants as r
use Rattle.nres_core.specs.declared.flat.Arg.{Arg}
use Rattle.nres_core.specs.declared.flat.Arg.TheVariants as a
use Rattle.rule_check.specs.Context.{Hold, Owned, Kept, Gone, Spot, Fact, Def, Ctx, Shape, is_container, is_slice, is_owned, is_gone, same_shape}
use Rattle.rule_check.specs.Steps.{bare}

-- the name of a word: a number itself, or the j-th register of a variable where it was bound, counted from 0
pub data Token : Type 0 where
  Number : ℕ → Token
  Of : (var index : ℕ) → Token

-- a variable: what it is in, and the words that stand for it; `part` where only a part of each share of it is held
pub record Entry : Type 0 where
  pub var : ℕ
  pub shape : Shape
  pub words : List Token
  pub part : Bool

-- tokens by register, entries with the newest first, holds by variable, a bound on the variables so far, facts and calculations as the rule check has
-- them, and the number of branches so far
pub record State : Type 0 where
  pub toks : ℕ → Option Token
  pub entries : List Entry
  pub hold : ℕ → Hold
  pub next : ℕ
  pub facts : List Fact
  pub defs : List Def
  pub branch : ℕ

-- ---- as the rule check sees it

abbrev pub spot_of : (ℕ → Hold) → Entry → Spot
spot_of hold e = record { var = e.var; rep = e.shape.rep; hold = hold e.var; tag = e.shape.tag }

abbrev pub spots_of : (ℕ → Hold) → List Entry → List Spot
spots_of hold [] = []
spots_of hold (e ∷ es) = spot_of hold e ∷ spots_of hold es

abbrev pub ctx_of : State → Ctx
ctx_of s = record { spots = spots_of s.hold s.entries; facts = s.facts; defs = s.defs }

-- ---- tokens

abbrev pub put {ℓ} : {A : Type ℓ} → (ℕ → A) → ℕ → A → ℕ → A
put f v x w = cond (nat_eq w v) x (f w)

abbrev pub same_token : Token → Token → Bool
same_token (Number n) (Number m) = nat_eq n m
same_token (Number n) (Of v j) = false
same_token (Of v j) (Number m) = false
same_token (Of v j) (Of w k) = nat_eq v w && nat_eq j k

abbrev pub has_token : Option Token → Token → Bool
has_token None t = false
has_token (Some u) t = same_token u t

-- registers that hold these words
abbrev pub hold_words : (ℕ → Option Token) → List ℕ → List Token → Bool
hold_words toks [] [] = true
hold_words toks [] (t ∷ ts) = false
hold_words toks (r ∷ rs) [] = false
hold_words toks (r ∷ rs) (t ∷ ts) = has_token (toks r) t && hold_words toks rs ts

-- tokens come to registers
abbrev pub put_tokens : (ℕ → Option Token) → List ℕ → List Token → ℕ → Option Token
put_tokens toks [] ts = toks
put_tokens toks (r ∷ rs) [] = toks
put_tokens toks (r ∷ rs) (t ∷ ts) = put_tokens (put toks r (Some t)) rs ts

-- the words of a variable that is bound where they are written
abbrev pub tokens_from : ℕ → ℕ → ℕ → List Token
tokens_from v j zero = []
tokens_from v j (suc n) = Of v j ∷ tokens_from v (suc j) n

abbrev pub fresh : ℕ → Shape → List Token
fresh v z = tokens_from v 0 (width z.rep)

abbrev pub all_fresh : List ℕ → List Shape → List Token
all_fresh [] zs = []
all_fresh (v ∷ vs) [] = []
all_fresh (v ∷ vs) (z ∷ zs) = fresh v z ++ all_fresh vs zs

abbrev pub numbers : List ℕ → List Token
numbers [] = []
numbers (n ∷ ns) = Number n ∷ numbers ns

-- ---- arguments

abbrev pub lookup : List Entry → ℕ → Option Entry
lookup [] v = None
lookup (e ∷ es) v = cond (nat_eq e.var v) (Some e) (lookup es v)

-- what stands for an argument; `vars` is its variable, where this is a container
pub record Info : Type 0 where
  pub shape : Shape
  pub words : List Token
  pub vars : List ℕ

abbrev pub only_container : Rep → ℕ → List ℕ
only_container x v = cond (is_container x) (v ∷ []) []

abbrev pub info_of : Option Entry → Option Info
info_of None = None
info_of (Some e) = Some (record { shape = e.shape; words = e.words; vars = only_container e.shape.rep e.var })

abbrev pub arg_info : List Entry → Arg → Option Info
arg_info es (a.Var v) = info_of (lookup es v)
arg_info es (a.Num n) = cond (nat_lt n (2 ^ 64)) (Some (record { shape = bare r.Word; words = Number n ∷ []; vars = [] })) None
arg_info es (a.Truth b) = Some (record { shape = bare r.Flag; words = Number (cond b 1 0) ∷ []; vars = [] })

abbrev pub cons_some : {A : Type 0} → Option A → Option (List A) → Option (List A)
cons_some None xs = None
cons_some (Some x) None = None
cons_some (Some x) (Some xs) = Some (x ∷ xs)

abbrev pub arg_infos : List Entry → List Arg → Option (List Info)
arg_infos es [] = Some []
arg_infos es (u ∷ us) = cons_some (arg_info es u) (arg_infos es us)

abbrev pub all_words : List Info → List Token
all_words [] = []
all_words (i ∷ is) = i.words ++ all_words is

abbrev pub all_vars : List Info → List ℕ
all_vars [] = []
all_vars (i ∷ is) = i.vars ++ all_vars is

abbrev pub info_shapes : List Info → List Shape
info_shapes [] = []
info_shapes (i ∷ is) = i.shape ∷ info_shapes is

abbrev pub info_reps : List Info → List Rep
info_reps [] = []
info_reps (i ∷ is) = i.shape.rep ∷ info_reps is

-- of the containers those for which this is `true`, or the others
abbrev pub wanted : Bool → List Bool → List Info → List ℕ
wanted b [] is = []
wanted b (d ∷ ds) [] = []
wanted true (true ∷ ds) (i ∷ is) = i.vars ++ wanted true ds is
wanted true (false ∷ ds) (i ∷ is) = wanted true ds is
wanted false (true ∷ ds) (i ∷ is) = wanted false ds is
wanted false (false ∷ ds) (i ∷ is) = i.vars ++ wanted false ds is

-- ---- holds

abbrev pub same_hold : Hold → Hold → Bool
same_hold Owned Owned = true
same_hold Kept Kept = true
same_hold Gone Gone = true
same_hold _ _ = false

-- these are gone
abbrev pub goners : List ℕ → (ℕ → Hold) → ℕ → Hold
goners [] h = h
goners (v ∷ vs) h = goners vs (put h v Gone)

-- no container that was made from a bound on is left
abbrev pub none_left : ℕ → (ℕ → Hold) → List Entry → Bool
none_left n hold [] = true
none_left n hold (e ∷ es) = cond (nat_lt e.var n) true ((not (is_container e.shape.rep) || is_gone (hold e.var)) && none_left n hold es)

-- the holds of these entries are the same
abbrev pub same_holds : (ℕ → Hold) → (ℕ → Hold) → List Entry → Bool
same_holds g h [] = true
same_holds g h (e ∷ es) = same_hold (g e.var) (h e.var) && same_holds g h es

-- inside a loop what is owned outside is kept
abbrev pub lent : Hold → Hold
lent Owned = Kept
lent Kept = Kept
lent Gone = Gone

-- ---- other tokens, holds, facts

abbrev pub with_toks : State → (ℕ → Option Token) → State
with_toks s toks = record { toks = toks; entries = s.entries; hold = s.hold; next = s.next; facts = s.facts; defs = s.defs; branch = s.branch }

abbrev pub with_hold : State → (ℕ → Hold) → State
with_hold s hold = record { toks = s.toks; entries = s.entries; hold = hold; next = s.next; facts = s.facts; defs = s.defs; branch = s.branch }

abbrev pub with_facts : State → List Fact → List Def → State
with_facts s facts defs = record { toks = s.toks; entries = s.entries; hold = s.hold; next = s.next; facts = facts; defs = defs; branch = s.branch }

abbrev pub with_branch : State → ℕ → State
with_branch s n = record { toks = s.toks; entries = s.entries; hold = s.hold; next = s.next; facts = s.facts; defs = s.defs; branch = n }

-- a block begins, with these facts besides
abbrev pub begun_state : State → List Fact → State
begun_state s fs = with_facts s (fs ++ s.facts) []

-- ---- binding

abbrev pub bind_entry : State → ℕ → Shape → List Token → State
bind_entry s v z words =
    record { toks = s.toks; entries = record { var = v; shape = z; words = words; part = false } ∷ s.entries; hold = put s.hold v Owned; next = suc v; facts = s.facts; defs = s.defs; branch = s.branch }

-- results become variables of these words
abbrev pub bind_words : State → List ℕ → List Shape → List (List Token) → State
bind_words s [] zs ws = s
bind_words s (v ∷ vs) [] ws = s
bind_words s (v ∷ vs) (z ∷ zs) [] = s
bind_words s (v ∷ vs) (z ∷ zs) (w ∷ ws) = bind_words (bind_entry s v z w) vs zs ws

abbrev pub bind_all : State → List ℕ → List Shape → State
bind_all s [] zs = s
bind_all s (v ∷ vs) [] = s
bind_all s (v ∷ vs) (z ∷ zs) = bind_all (bind_entry s v z (fresh v z)) vs zs

-- results come to registers
abbrev pub bind_at : State → List ℕ → List ℕ → List Shape → State
bind_at s to outs zs = bind_all (with_toks s (put_tokens s.toks to (all_fresh outs zs))) outs zs

abbrev pub infos_words : List Info → List (List Token)
infos_words [] = []
infos_words (i ∷ is) = i.words ∷ infos_words is

-- new variables come in order
abbrev pub in_order : ℕ → List ℕ → List Shape → Bool
in_order n [] [] = true
in_order n [] (z ∷ zs) = false
in_order n (v ∷ vs) [] = false
in_order n (v ∷ vs) (z ∷ zs) = nat_le n v && in_order (suc v) vs zs

abbrev pub same_shapes : List Shape → List Shape → Bool
same_shapes [] [] = true
same_shapes [] (z ∷ zs) = false
same_shapes (y ∷ ys) [] = false
same_shapes (y ∷ ys) (z ∷ zs) = same_shape y z && same_shapes ys zs

-- a tag is the number of a variable from below a bound
abbrev pub old_shape : ℕ → Shape → Bool
old_shape n z = not (is_slice z.rep) || nat_lt z.tag n

abbrev pub old_shapes : ℕ → List Shape → Bool
old_shapes n [] = true
old_shapes n (z ∷ zs) = old_shape n z && old_shapes n zs

-- ---- tokens of sides and loops

-- registers below a bound keep their tokens
abbrev pub keeps_token : Option Token → Option Token → Bool
keeps_token None o = true
keeps_token (Some t) o = has_token o t

abbrev pub keep_tokens : ℕ → (ℕ → Option Token) → (ℕ → Option Token) → Bool
keep_tokens zero f g = true
keep_tokens (suc n) f g = keeps_token (f n) (g n) && keep_tokens n f g

-- the tokens that both sides leave
abbrev pub both_tokens : Option Token → Option Token → Option Token
both_tokens None o = None
both_tokens (Some t) o = cond (has_token o t) (Some t) None

-- the registers of a branch begin with its arguments
abbrev pub arg_tokens : (ℕ → Option Token) → List ℕ → ℕ → Option Token
arg_tokens toks [] i = None
arg_tokens toks (x ∷ xs) zero = toks x
arg_tokens toks (x ∷ xs) (suc i) = arg_tokens toks xs i
