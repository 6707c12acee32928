-- The parameters of a body, and what is refused at its end.
use Rattle.std.specs.Prelude.{ℕ, ◌&&◌, not, cond, List, [], ◌∷◌, Option, Some, None, Result, Ok, codes}
use Rattle.nres_core.specs.FlatTree.{Ending}
use Rattle.nres_core.specs.declared.refusal.Refusal.{Refusal}
use Rattle.nres_core.specs.declared.refusal.Why.TheVariants as w
use Rattle.ownership.specs.Faults.{or_next, results_fault}
use Rattle.ownership.specs.declared.entry.Fault.{Fault}
use Rattle.ownership.specs.declared.entry.Fault.TheVariants as f
use Rattle.rule_check.specs.Check.{param_hold, param_tag, owed, shape_reps}
use Rattle.rule_check.specs.Context.{Spot, Ctx, is_slice, shapes_of, reps_of, vars_of, looked_up, all_go, inner, first_slice, first_unlike}
use Rattle.rule_check.specs.Steps.{Book, Moved, on_ok, unless, refused, ended, slices_are}
use Rattle.target_code.specs.declared.tree.InParam.{InParam}
use Rattle.target_code.specs.declared.tree.Rep.{Rep}

-- the entry of a parameter that is a variable
abbrev pub param_spot : ℕ → InParam → Spot
param_spot k y = record { var = k; rep = y.rep; hold = param_hold y.kept; tag = param_tag y.rep k }

-- the slice that a parameter, which is a variable, makes a body owe
abbrev pub owed_one : ℕ → InParam → List ℕ
owed_one k y = cond (is_slice y.rep && not y.kept) (k ∷ []) []

-- the end of a body, whose parameters are the variables from k on: slices come back in order, and results are in what is declared
abbrev pub body_ends : Book → ℕ → List InParam → List Rep → Ctx → Ending → Result Moved Refusal
body_ends book k params shown x e =
    on_ok (ended book 0 (slices_are (owed k params) shown) x e) (λ m.
    unless (first_unlike 1 shown (shape_reps m.shapes)) (λ i. refused e.place (codes "return") (reps_of (looked_up x.spots e.results)) (w.Result i))
    (Ok m))

-- of results with entries ss that moved out of xs: in this order a slice that does not come back, one that a block made, another representation
abbrev pub left_fault : List ℕ → List Rep → List Spot → List Spot → Option Fault
left_fault ks shown ss xs =
    or_next f.Tag (slices_are ks shown (shapes_of ss)) (or_next f.Tag (first_slice (inner 0 xs)) (or_next f.Result (first_unlike 1 shown (shape_reps (shapes_of ss))) None))

abbrev pub then_left : Option Fault → Option Fault → Option Fault
then_left (Some fault) next = Some fault
then_left None next = next

-- behind what is refused of the results themselves
abbrev pub body_fault : List ℕ → List Rep → List Spot → List Spot → Option Fault
body_fault ks shown ss xs = then_left (results_fault ss) (left_fault ks shown ss (all_go (vars_of ss) xs))
