use Rattle.std.proofs.Common.{◌≡◌, length}
use Rattle.target_lines.specs.Reading.{register_at, registers_at}
use Rattle.target_lines.proofs.Lists.{with_front, all_at}
use Rattle.target_lines.proofs.reading.registers.Given as goal

abbrev pub invariant-each : goal.invariant-each
invariant-each l = with_front l.list (all_at register_at l.rest) ≡ registers_at l.bytes

abbrev pub decreases-each : goal.decreases-each
decreases-each l = length l.rest
