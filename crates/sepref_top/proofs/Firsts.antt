-- The path of the first choices is one of the specification's paths.
use Rattle.std.proofs.Common.{◌≡◌, ℕ, ◌+◌, List, Result, Err, subst, sym, arith}
use Rattle.std.specs.Borrow.{Bor}
use Rattle.inputs.specs.Inputs as lines
use Rattle.inputs.specs.declared.refusal.InputFault.{InputFault}
use Rattle.inputs.specs.declared.refusal.InputRefusal.{InputRefusal}
use Rattle.inputs.specs.declared.refusal.InputRefusal.TheVariants as refusal
use Rattle.nres_eval.specs.Ends.{Tells}
use Rattle.nres_eval.specs.declared.end.EvalEnd.{EvalEnd}
use Rattle.nres_eval.specs.declared.end.EvalEnd.TheVariants as e
use Rattle.nres_core.specs.Mirror.{whole_of}
use Rattle.nres_core.specs.Runs.{End, Fell, Gave, Gives}
use Rattle.nres_core.specs.declared.tree.Spec.{Spec}
use Rattle.nres_core.specs.declared.value.Value.{Value}
use Rattle.nres_meaning.proofs.Growth.{whole_less}
use Rattle.nres_meaning.proofs.Lively.{fails_first, gives_first, whole_lively}
use Rattle.nres_meaning.proofs.Steps.{fails, gives}
use Rattle.nres_meaning.specs.Allowed.{Allows, CanFail, first_end}
use Rattle.nres_meaning.specs.Meaning.{whole_runs}
use Rattle.nres_meaning.specs.WordOperations.{op_named}

pub first_allowed : (n d : ℕ) (p : Spec) (us vs : List Value) → first_end n d p us ≡ Gave vs → Allows p us vs
first_allowed n d p us vs e =
    let g = gives_first (whole_runs op_named n d (whole_of p) us) vs (whole_lively op_named n d (whole_of p) us) e in
    let r = gives (whole_less op_named n (n + d) d (n + d) (omega arith) (omega arith) (whole_of p) us) vs g in
    (n + d, subst (λ z. Gives (whole_runs op_named (n + d) (n + d) (whole_of p) us) z) (sym r.1) r.2)

pub first_can_fail : (n d l : ℕ) (p : Spec) (us : List Value) → first_end n d p us ≡ Fell l → CanFail p us
first_can_fail n d l p us e =
    let f = fails_first (whole_runs op_named n d (whole_of p) us) l (whole_lively op_named n d (whole_of p) us) e in
    (n + d, fails (whole_less op_named n (n + d) d (n + d) (omega arith) (omega arith) (whole_of p) us) f)

-- what an answer tells

pub fell : (r : Result (List Value) EvalEnd) (end : End (List Value)) (l : ℕ) → Tells r end → r ≡ Err (e.Fails l) → end ≡ Fell l
fell r end l h i = subst (λ x. Tells x end) i h

pub refused : (r : Result (List Value) InputRefusal) (end : Result (List Value) lines.Fault) (x : Bor (List ℕ)) (f : InputFault) → lines.Tells r end → r ≡ Err (refusal.Refused x f) → end ≡ Err (x.now, f)
refused r end x f h i = subst (λ y. lines.Tells y end) i h
