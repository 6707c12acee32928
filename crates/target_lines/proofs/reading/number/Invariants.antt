use Rattle.std.proofs.Common.{◌≡◌, length}
use Rattle.target_lines.specs.Reading as spec
use Rattle.target_lines.proofs.reading.number.Given as goal

abbrev pub invariant-loop-rest : goal.invariant-loop-rest
invariant-loop-rest l = spec.number_from l.value l.rest ≡ spec.number_at l.bytes

abbrev pub decreases-loop-rest : goal.decreases-loop-rest
decreases-loop-rest l = length l.rest
