use Rattle.std.proofs.Common.{◌≡◌, length}
use Rattle.fits.specs.Programs.{same_reps}
use Rattle.proof_check.proofs.parts.same_results.Given as goal

abbrev pub invariant-loop-left : goal.invariant-loop-left
invariant-loop-left l = same_reps l.results l.others ≡ same_reps l.left l.rest

abbrev pub decreases-loop-left : goal.decreases-loop-left
decreases-loop-left l = length l.left
