use Rattle.std.proofs.Common.{◌≡◌, length}
use Rattle.target_lines.specs.Reading as lines
use Rattle.replay.proofs.reading.number.Given as goal

abbrev pub invariant-loop-rest : goal.invariant-loop-rest
invariant-loop-rest l = lines.number_from l.value l.rest ≡ lines.number_at l.bytes

abbrev pub decreases-loop-rest : goal.decreases-loop-rest
decreases-loop-rest l = length l.rest
