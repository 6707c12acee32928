use Rattle.std.proofs.Common.{◌≡◌, ◌+◌, ◌-◌, ◌≤◌, drop, length}
use Rattle.target_lines.specs.Reading as spec
use Rattle.target_lines.proofs.reading.spaces.Given as goal

abbrev pub invariant-loop-count : goal.invariant-loop-count
invariant-loop-count l = record { within : l.count ≤ length l.bytes; so_far : spec.spaces l.bytes ≡ l.count + spec.spaces (drop l.count l.bytes) }

abbrev pub decreases-loop-count : goal.decreases-loop-count
decreases-loop-count l = length l.bytes - l.count
