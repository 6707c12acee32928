-- The step that the rule check makes at each bind.
use Rattle.std.specs.Prelude.{ℕ, zero, suc, nat_eq, Bool, true, false, ◌&&◌, not, cond, List, [], ◌∷◌, ◌++◌, length, Option, Some, None, Result, Ok, Err, codes, decimal}
use Rattle.target_code.specs.declared.tree.Calc.{Calc}
use Rattle.target_code.specs.declared.tree.Calc.TheVariants as c
use Rattle.target_code.specs.declared.tree.InParam.{InParam}
use Rattle.target_code.specs.declared.tree.Rep.{Rep}
use Rattle.target_code.specs.declared.tree.Rep.TheVariants as r
use Rattle.nres_core.specs.FlatTree.{Binds, Ending}
use Rattle.nres_core.specs.declared.flat.Arg.{Arg}
use Rattle.nres_core.specs.declared.flat.Arg.TheVariants as a
use Rattle.nres_core.specs.declared.op.Op.{Op}
use Rattle.nres_core.specs.declared.place.Place.{Place}
use Rattle.nres_core.specs.declared.refusal.Refusal.{Refusal}
use Rattle.nres_core.specs.declared.refusal.Why.{Why}
use Rattle.nres_core.specs.declared.refusal.Why.TheVariants as w
use Rattle.nres_core.specs.declared.row.Fate.{Fate}
use Rattle.nres_core.specs.declared.row.Fate.TheVariants as f
use Rattle.nres_core.specs.declared.row.Kind.{Kind}
use Rattle.rule_check.specs.Context.{Owned, Spot, Fact, Ctx, Shape, is_container, is_slice, same_rep, shape_of, shapes_of, reps_of, vars_of, spot_at, looked_up, all_go, all_lend, lent, binding, outer, inner, all_fall, part, put_back, first_gone, first_kept, first_twice, first_clash, first_missed, first_slice, first_unmet, first_other}
use Rattle.rule_check.specs.Facts.{knows, defs_in, learnt, calc_tells, any_tells}
use Rattle.rule_check.specs.Table.{Rule, Take, bound_of, rep_of}
use Rattle.rule_check.specs.OperationWords.{word_of}

-- ---- what a check is given

-- what a procedure takes and gives
pub record Sig : Type 0 where
  pub params : List InParam
  pub outs : List Rep

-- rows by operation, representations and the chosen representation; the procedures; the names of the variables
pub record Book : Type 0 where
  pub row_for : Op → List Rep → Option Rep → Option Rule
  pub sigs : List Sig
  pub names : List (List ℕ)

abbrev pub name_at : List (List ℕ) → ℕ → List ℕ
name_at [] k = codes "_"
name_at (x ∷ xs) zero = x
name_at (x ∷ xs) (suc k) = name_at xs k

abbrev pub sig_at : List Sig → ℕ → Option Sig
sig_at [] k = None
sig_at (x ∷ xs) zero = Some x
sig_at (x ∷ xs) (suc k) = sig_at xs k

abbrev pub truth_name : Bool → List ℕ
truth_name true = codes "true"
truth_name false = codes "false"

abbrev pub arg_name : List (List ℕ) → Arg → List ℕ
arg_name names (a.Var k) = name_at names k
arg_name names (a.Num n) = decimal n
arg_name names (a.Truth b) = truth_name b

-- ---- refusals

abbrev pub refused : Place → List ℕ → List Rep → Why → Refusal
refused p op reps why = record { place = p; op = op; reps = reps; why = why }

-- the step goes on with what the one before it gives
unfoldable pub on_ok : {A B : Type 0} → Result A Refusal → (A → Result B Refusal) → Result B Refusal
on_ok (Ok x) k = k x
on_ok (Err e) k = Err e

unfoldable pub on_some : {A B : Type 0} → Option A → Refusal → (A → Result B Refusal) → Result B Refusal
on_some (Some x) e k = k x
on_some None e k = Err e

unfoldable pub unless : {A B : Type 0} → Option A → (A → Refusal) → Result B Refusal → Result B Refusal
unless None e k = k
unless (Some x) e k = Err (e x)

unfoldable pub when : {A : Type 0} → Bool → Refusal → Result A Refusal → Result A Refusal
when true e k = k
when false e k = Err e

-- the first where it passes, else the second
unfoldable pub either_of : {A : Type 0} → Result A Refusal → Result A Refusal → Result A Refusal
either_of (Ok x) k = Ok x
either_of (Err e) k = k

-- ---- contexts

abbrev pub with_spots : Ctx → List Spot → Ctx
with_spots x ss = record { spots = ss; facts = x.facts; defs = x.defs }

abbrev pub knowing : Ctx → List Fact → Ctx
knowing x es = record { spots = x.spots; facts = es ++ x.facts; defs = x.defs }

-- a block begins on these entries, with these facts besides
abbrev pub begun : Ctx → List Spot → List Fact → Ctx
begun x ss es = record { spots = ss; facts = es ++ x.facts; defs = [] }

-- ---- calculations

abbrev pub calc_rep : Calc → Rep
calc_rep c.Lt = r.Flag
calc_rep c.Le = r.Flag
calc_rep c.Eq = r.Flag
calc_rep c.Ne = r.Flag
calc_rep c.And = r.Flag
calc_rep c.Or = r.Flag
calc_rep _ = r.Word

abbrev pub bare : Rep → Shape
bare x = record { rep = x; tag = 0 }

abbrev pub calc_ctx : Ctx → Place → ℕ → Calc → Arg → Arg → Ctx
calc_ctx x p to word u v = record {
  spots = binding (to ∷ []) (bare (calc_rep word) ∷ []) x.spots;
  facts = calc_tells word to v ++ x.facts;
  defs = record { place = p; to = to; word = word; left = u; right = v } ∷ x.defs;
}

abbrev pub any_ctx : Ctx → ℕ → Arg → Ctx
any_ctx x to v = record { spots = binding (to ∷ []) (bare r.Word ∷ []) x.spots; facts = any_tells to v ++ x.facts; defs = x.defs }

abbrev pub assert_ctx : Ctx → Binds → Arg → Ctx
assert_ctx x inner u = knowing x (learnt (defs_in inner []) u)

-- ---- operations

abbrev pub is_destroyed : Fate → Bool
is_destroyed f.Kept = false
is_destroyed f.Destroyed = true

-- the arguments that a row destroys
abbrev pub destroyed : List Take → List Spot → List Spot
destroyed (t ∷ ts) (s ∷ ss) = cond (is_destroyed t.fate) (s ∷ destroyed ts ss) (destroyed ts ss)
destroyed _ _ = []

abbrev pub arg_at : List Arg → ℕ → Option Arg
arg_at [] k = None
arg_at (u ∷ us) zero = Some u
arg_at (u ∷ us) (suc k) = arg_at us k

abbrev pub unless_known : List Fact → ℕ → Option Arg → Option Arg
unless_known es n None = None
unless_known es n (Some u) = cond (knows es u n) None (Some u)

-- the argument that a row wants below the bound, where it is not known to be
abbrev pub unknown : List Fact → ℕ → Option ℕ → List Arg → Option Arg
unknown es n None us = None
unknown es n (Some k) us = unless_known es n (arg_at us k)

abbrev pub or_zero : Option ℕ → ℕ
or_zero None = 0
or_zero (Some n) = n

-- u of an operation, or 0
abbrev pub op_bound : Option Rep → List Rep → ℕ
op_bound None xs = or_zero (bound_of xs)
op_bound (Some y) xs = or_zero (bound_of (y ∷ xs))

abbrev pub slice_tag : List Spot → ℕ
slice_tag [] = 0
slice_tag (s ∷ ss) = cond (is_slice s.rep) s.tag (slice_tag ss)

abbrev pub tagged : ℕ → Rep → Shape
tagged k x = record { rep = x; tag = cond (is_slice x) k 0 }

abbrev pub row_shapes : ℕ → ℕ → List Kind → List Shape
row_shapes n k [] = []
row_shapes n k (g ∷ gs) = tagged k (rep_of g n) ∷ row_shapes n k gs

abbrev pub apply_tests : Book → Ctx → Option Rep → List Arg → List Spot → (Why → Refusal) → Option Rule → Result Rule Refusal
apply_tests book x made us ss refuse None = Err (refuse w.Missing)
apply_tests book x made us ss refuse (Some t) =
    unless (first_clash (destroyed t.takes ss) ss) (λ v. refuse (w.Twice (name_at book.names v)))
    (unless (first_kept (destroyed t.takes ss)) (λ v. refuse (w.Held (name_at book.names v)))
    (unless (unknown x.facts (op_bound made (reps_of ss)) t.fact us) (λ u. refuse (w.Fact (arg_name book.names u) (op_bound made (reps_of ss))))
    (Ok t)))

-- in this order: Gone, Missing, Twice, Held, Fact
abbrev pub apply_sure : Book → Ctx → Place → Op → Option Rep → List Arg → Result Rule Refusal
apply_sure book x p op made us =
    let ss = looked_up x.spots us in
    let refuse = refused p (word_of op) (reps_of ss) in
    unless (first_gone ss) (λ v. refuse (w.Gone (name_at book.names v)))
    (apply_tests book x made us ss refuse (book.row_for op (reps_of ss) made))

-- destroyed arguments are Gone, and results are Owned; a destroyed slice gives its tag to the result
abbrev pub apply_ctx : Ctx → List ℕ → Option Rep → List Arg → Rule → Ctx
apply_ctx x to made us t =
    let ss = looked_up x.spots us in
    let ds = destroyed t.takes ss in
    with_spots x (binding to (row_shapes (op_bound made (reps_of ss)) (slice_tag ds) t.gives) (all_go (vars_of ds) x.spots))

-- ---- calls

-- an array may also stand for a slice
abbrev pub stands_for : Rep → Rep → Bool
stands_for r.Array r.Slice = true
stands_for x y = same_rep x y

abbrev pub stand_for : List Rep → List InParam → Bool
stand_for [] [] = true
stand_for (x ∷ xs) (y ∷ ys) = stands_for x y.rep && stand_for xs ys
stand_for _ _ = false

-- the containers that a call takes over
abbrev pub handed : List InParam → List Spot → List Spot
handed (y ∷ ys) (s ∷ ss) = cond (is_container y.rep && not y.kept) (s ∷ handed ys ss) (handed ys ss)
handed _ _ = []

-- those for slices
abbrev pub lists : List InParam → List Spot → List Shape
lists (y ∷ ys) (s ∷ ss) = cond (is_slice y.rep && not y.kept) (shape_of s ∷ lists ys ss) (lists ys ss)
lists _ _ = []

-- the slices that a call gives back are those lists, of which a typed call has as many
abbrev pub next_list : List Shape → Shape
next_list [] = bare r.Array
next_list (z ∷ zs) = z

abbrev pub other_lists : List Shape → List Shape
other_lists [] = []
other_lists (z ∷ zs) = zs

abbrev pub call_shapes : List Rep → List Shape → List Shape
call_shapes [] zs = []
call_shapes (y ∷ ys) zs = cond (is_slice y) (next_list zs ∷ call_shapes ys (other_lists zs)) (bare y ∷ call_shapes ys zs)

abbrev pub call_tests : Book → List Spot → (Why → Refusal) → Option Sig → Result Sig Refusal
call_tests book ss refuse None = Err (refuse w.Missing)
call_tests book ss refuse (Some g) =
    when (stand_for (reps_of ss) g.params) (refuse w.Missing)
    (unless (first_twice ss) (λ v. refuse (w.Twice (name_at book.names v)))
    (unless (first_kept (handed g.params ss)) (λ v. refuse (w.Held (name_at book.names v)))
    (Ok g)))

-- in this order: Gone, Missing, Twice, Held
abbrev pub call_sure : Book → Ctx → Place → ℕ → List Arg → Result Sig Refusal
call_sure book x p k us =
    let ss = looked_up x.spots us in
    let refuse = refused p (codes "call") (reps_of ss) in
    unless (first_gone ss) (λ v. refuse (w.Gone (name_at book.names v)))
    (call_tests book ss refuse (sig_at book.sigs k))

abbrev pub call_ctx : Ctx → List ℕ → List Arg → Sig → Ctx
call_ctx x to us g =
    let ss = looked_up x.spots us in
    with_spots x (binding to (call_shapes g.outs (lists g.params ss)) (all_go (vars_of (handed g.params ss)) x.spots))

-- ---- results

-- values that moved out: what they are in, and the entries after
pub record Moved : Type 0 where
  pub shapes : List Shape
  pub spots : List Spot

-- values move out at a place: in this order Gone, Twice, Held
abbrev pub moved : Book → List Spot → List Arg → (Why → Refusal) → Result Moved Refusal
moved book xs us refuse =
    let ss = looked_up xs us in
    unless (first_gone ss) (λ v. refuse (w.Gone (name_at book.names v)))
    (unless (first_twice ss) (λ v. refuse (w.Twice (name_at book.names v)))
    (unless (first_kept ss) (λ v. refuse (w.Held (name_at book.names v)))
    (Ok (record { shapes = shapes_of ss; spots = all_go (vars_of ss) xs }))))

-- at the `return` of a block that began with n entries; `astray` finds the list whose slice does not come back
abbrev pub ended : Book → ℕ → (List Shape → Option ℕ) → Ctx → Ending → Result Moved Refusal
ended book n astray x e =
    let refuse = refused e.place (codes "return") (reps_of (looked_up x.spots e.results)) in
    on_ok (moved book x.spots e.results refuse) (λ m.
    unless (astray m.shapes) (λ v. refuse (w.Tag (name_at book.names v)))
    (unless (first_slice (inner n m.spots)) (λ v. refuse (w.Tag (name_at book.names v)))
    (Ok m)))

-- a block that owes no slice
abbrev pub no_list : List Shape → Option ℕ
no_list zs = None

-- a block of `split` owes its slice first
abbrev pub first_is : ℕ → List Shape → Option ℕ
first_is k [] = Some k
first_is k (z ∷ zs) = cond (is_slice z.rep && nat_eq z.tag k) None (Some k)

-- a procedure owes its slices, in order, where it declares slices
abbrev pub slices_are : List ℕ → List Rep → List Shape → Option ℕ
slices_are [] ys zs = None
slices_are (k ∷ ks) [] zs = None
slices_are (k ∷ ks) (y ∷ ys) [] = None
slices_are (k ∷ ks) (y ∷ ys) (z ∷ zs) =
    cond (is_slice y) (cond (is_slice z.rep && nat_eq z.tag k) (slices_are ks ys zs) (Some k)) (slices_are (k ∷ ks) ys zs)

-- ---- `if`, loops and `either`

-- an entry that went on one side is gone; slices go on both or on none, and results agree
abbrev pub met : Book → Ctx → Place → Moved → Moved → Result Moved Refusal
met book x p m1 m2 =
    let n = length x.spots in
    let refuse = refused p (codes "if") [] in
    unless (first_unmet (outer n m1.spots) (outer n m2.spots)) (λ v. refuse (w.Meet (name_at book.names v)))
    (unless (first_other 1 m1.shapes m2.shapes) (λ k. refuse (w.Result k))
    (Ok (record { shapes = m1.shapes; spots = all_fall (all_fall x.spots (outer n m1.spots)) (outer n m2.spots) })))

-- starting values move in
abbrev pub started : Book → Ctx → Place → List Arg → Result Moved Refusal
started book x p us = moved book x.spots us (refused p (codes "while") [])

-- inside a loop all containers from outside are Kept
abbrev pub head_spots : List ℕ → Moved → List Spot
head_spots xs m = binding xs m.shapes (lent m.spots)

abbrev pub turned : Book → Moved → Ctx → Ending → Result Moved Refusal
turned book m x e =
    on_ok (ended book (length m.spots) no_list x e) (λ m2.
    unless (first_other 1 m.shapes m2.shapes) (λ k. refused e.place (codes "return") (reps_of (looked_up x.spots e.results)) (w.Result k))
    (Ok m2))

-- the entries after the side that was taken
abbrev pub taken : Ctx → Moved → List Spot
taken x m = all_fall x.spots (outer (length x.spots) m.spots)

-- ---- `par` and `split`

abbrev pub par_sure : Book → List Spot → List ℕ → List ℕ → (Why → Refusal) → Result (List Spot) Refusal
par_sure book ss us vs refuse = unless (first_missed (us ++ vs) ss) (λ v. refuse (w.Gone (name_at book.names v))) (Ok ss)

-- a branch that uses us has its entries; a container that the other branch uses too is Kept
abbrev pub branch_spots : List Spot → List ℕ → List ℕ → List Spot
branch_spots ss us vs = part us (all_lend vs ss)

-- what a branch that began with n entries leaves of the others
abbrev pub joined : List Spot → List ℕ → List Spot → Moved → List Spot
joined ss us bs m = put_back us ss (outer (length bs) m.spots)

abbrev pub is_list : Rep → Bool
is_list r.Array = true
is_list r.Slice = true
is_list _ = false

-- in this order: Gone, Missing, Held, then Gone of the others; after it the list is Gone
abbrev pub split_sure : Book → List Spot → Place → ℕ → List ℕ → List ℕ → Result (List Spot) Refusal
split_sure book ss p list us vs =
    let s = spot_at ss list in
    let refuse = refused p (codes "split") (s.rep ∷ []) in
    unless (first_gone (s ∷ [])) (λ v. refuse (w.Gone (name_at book.names v)))
    (when (is_list s.rep) (refuse w.Missing)
    (unless (first_kept (s ∷ [])) (λ v. refuse (w.Held (name_at book.names v)))
    (par_sure book (all_go (list ∷ []) ss) us vs refuse)))

abbrev pub slice_spot : ℕ → Spot
slice_spot k = record { var = k; rep = r.Slice; hold = Owned; tag = k }

abbrev pub other_shapes : List Shape → List Shape
other_shapes [] = []
other_shapes (z ∷ zs) = zs
