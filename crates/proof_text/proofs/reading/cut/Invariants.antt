use Rattle.std.proofs.Common.{◌≤◌, ◌-◌, length, take}
use Rattle.proof_text.specs.Guesses.{Lacks}
use Rattle.proof_text.proofs.reading.cut.Given as goal

abbrev pub invariant-loop-end : goal.invariant-loop-end
invariant-loop-end l = (l.end ≤ length l.bytes) × Lacks l.byte (take l.end l.bytes)

abbrev pub decreases-loop-end : goal.decreases-loop-end
decreases-loop-end l = length l.bytes - l.end
