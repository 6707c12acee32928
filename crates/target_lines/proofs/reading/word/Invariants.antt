use Rattle.std.proofs.Common.{◌≡◌, ◌+◌, ◌-◌, ◌≤◌, drop, length}
use Rattle.target_lines.specs.Reading as spec
use Rattle.target_lines.proofs.reading.word.Given as goal

abbrev pub invariant-loop-end : goal.invariant-loop-end
invariant-loop-end l = record { within : l.end ≤ length l.bytes; so_far : spec.letters l.bytes ≡ l.end + spec.letters (drop l.end l.bytes) }

abbrev pub decreases-loop-end : goal.decreases-loop-end
decreases-loop-end l = length l.bytes - l.end
