-- What the rules say of a specification, from what they say of its flat tree.
use Rattle.std.proofs.Common.{◌≡◌, Option, Result, Ok, Err}
use Rattle.std.specs.Result.{IfOk}
use Rattle.std.specs.declared.alloc.AllocError.{AllocError}
use Rattle.nres_core.specs.FlatTree.{flat_whole_of}
use Rattle.nres_core.specs.declared.flat.Flat.{Flat}
use Rattle.nres_core.specs.declared.refusal.Refusal.{Refusal}
use Rattle.nres_core.specs.declared.tree.Spec.{Spec}
use Rattle.nres_rules.specs.Identify.{IsFlatOf}
use Rattle.rule_check.specs.Check.{refusal_of}
use Rattle.rule_check.specs.Table.{row_for}
use Rattle.sepref_top.specs.Synthesis.{RulesSay}
use Rattle.sepref_top.proofs.OneFlat.{one_flat}

pub say : (p : Spec) (f : Flat) (r : Result (Option Refusal) AllocError) → IsFlatOf p (flat_whole_of f)
    → IfOk r (λ said. refusal_of row_for (flat_whole_of f) ≡ said) → IfOk r (λ said. RulesSay p said)
say p f (Ok said) i e = record { flat = flat_whole_of f; flat_is = i; only = λ g j. one_flat p g (flat_whole_of f) j i; says = e }
say p f (Err a) i e = tt
