-- Why a call is refused, by variables, and what it takes.
use Rattle.std.specs.Prelude.{◌≡◌, ℕ, Bool, true, false, not, ◌&&◌, cond, List, [], ◌∷◌, Option, Some, None, Ok, codes}
use Rattle.nres_core.specs.FlatTree.{FlatProc}
use Rattle.nres_core.specs.declared.flat.Arg.{Arg}
use Rattle.nres_core.specs.declared.place.Place.{Place}
use Rattle.ownership.specs.Faults.{or_next, unless_refused}
use Rattle.ownership.specs.declared.entry.Fault.{Fault}
use Rattle.ownership.specs.declared.entry.Fault.TheVariants as f
use Rattle.proc_rules.specs.declared.sig.Sig.{Sig as CodeSig}
use Rattle.rule_check.specs.Context.{Spot, Ctx, Shape, is_container, is_slice, shape_of, reps_of, vars_of, looked_up, first_gone, first_kept, first_twice}
use Rattle.rule_check.specs.Steps.{Book, Sig, sig_at, stand_for, handed, next_list, other_lists, bare, call_sure, refused}
use Rattle.target_code.specs.declared.tree.InParam.{InParam}
use Rattle.target_code.specs.declared.tree.Rep.{Rep}

-- what a procedure declares
abbrev pub declared : FlatProc → Sig
declared p = record { params = p.params; outs = p.shown }

abbrev pub sig_view : CodeSig → Sig
sig_view s = record { params = s.params.now; outs = s.outs.now }

abbrev pub sig_seen : Option CodeSig → Option Sig
sig_seen None = None
sig_seen (Some s) = Some (sig_view s)

-- representations that may not be passed
abbrev pub if_fit : Bool → Option Fault → Option Fault
if_fit true next = next
if_fit false next = Some f.Missing

-- in this order: Gone, Missing, Twice, Held
abbrev pub known_fault : List Spot → List InParam → Option Fault
known_fault ss ps =
    or_next f.Gone (first_gone ss) (if_fit (stand_for (reps_of ss) ps) (or_next f.Twice (first_twice ss) (or_next f.Held (first_kept (handed ps ss)) None)))

abbrev pub call_fault : List Spot → Option Sig → Option Fault
call_fault ss None = or_next f.Gone (first_gone ss) (Some f.Missing)
call_fault ss (Some g) = known_fault ss g.params

-- the variables of the containers that a call takes
abbrev pub taken_of : List Spot → Option Sig → List ℕ
taken_of ss None = []
taken_of ss (Some g) = vars_of (handed g.params ss)

-- what a parameter takes, and what a result is in
abbrev pub hand_one : InParam → Spot → List Spot
hand_one y s = cond (is_container y.rep && not y.kept) (s ∷ []) []

abbrev pub list_one : InParam → Spot → List Shape
list_one y s = cond (is_slice y.rep && not y.kept) (shape_of s ∷ []) []

abbrev pub shape_one : Rep → List Shape → Shape
shape_one y zs = cond (is_slice y) (next_list zs) (bare y)

abbrev pub lists_left : Rep → List Shape → List Shape
lists_left y zs = cond (is_slice y) (other_lists zs) zs

-- a call is refused for this
abbrev pub CallsRefused : Type 0
CallsRefused = (book : Book) (x : Ctx) (p : Place) (k : ℕ) (us : List Arg) (g : Sig) → sig_at book.sigs k ≡ Some g
    → call_sure book x p k us ≡ unless_refused book.names (refused p (codes "call") (reps_of (looked_up x.spots us))) (call_fault (looked_up x.spots us) (Some g)) (Ok g)
