use Rattle.std.proofs.Common.{◌≡◌, length}
use Rattle.soundness.specs.Shape.{names_of}
use Rattle.unfit_line.specs.Tests.{rise}
use Rattle.proof_check.proofs.names.are_rising.Given as goal

abbrev pub invariant-loop-rest : goal.invariant-loop-rest
invariant-loop-rest l = rise (names_of l.procs) ≡ rise (names_of l.rest)

abbrev pub decreases-loop-rest : goal.decreases-loop-rest
decreases-loop-rest l = length l.rest
