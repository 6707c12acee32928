use Rattle.std.proofs.Common.{◌-◌, length}
use Rattle.execution_input.proofs.Cuts.{Walked}
use Rattle.execution_input.proofs.reading.front_end.Given as goal

abbrev pub invariant-loop-end : goal.invariant-loop-end
invariant-loop-end l = Walked l.text l.end l.line l.begins_line

abbrev pub decreases-loop-end : goal.decreases-loop-end
decreases-loop-end l = length l.text - l.end
