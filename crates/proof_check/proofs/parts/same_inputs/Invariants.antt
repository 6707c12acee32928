use Rattle.std.proofs.Common.{◌≡◌, length}
use Rattle.unfit_line.specs.Tests.{same_ins}
use Rattle.proof_check.proofs.parts.same_inputs.Given as goal

abbrev pub invariant-loop-left : goal.invariant-loop-left
invariant-loop-left l = same_ins l.inputs l.others ≡ same_ins l.left l.rest

abbrev pub decreases-loop-left : goal.decreases-loop-left
decreases-loop-left l = length l.left
