use Rattle.std.proofs.Common.{length}
use Rattle.replay.specs.Kept.{Took}
use Rattle.replay.proofs.reading.read_schedule.Given as goal

abbrev pub invariant-loop-rest : goal.invariant-loop-rest
invariant-loop-rest l = Took l.bytes l.steps.items l.rest

abbrev pub decreases-loop-rest : goal.decreases-loop-rest
decreases-loop-rest l = length l.rest
