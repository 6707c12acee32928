use Rattle.std.proofs.Common.{◌≤◌, ◌-◌, length, take}
use Rattle.target_lines.specs.Texts.{IsOneLine}
use Rattle.target_text.proofs.reader.cut.Given as goal

abbrev pub invariant-loop-end : goal.invariant-loop-end
invariant-loop-end l = (l.end ≤ length l.bytes) × IsOneLine (take l.end l.bytes)

abbrev pub decreases-loop-end : goal.decreases-loop-end
decreases-loop-end l = length l.bytes - l.end
