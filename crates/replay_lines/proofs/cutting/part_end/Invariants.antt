use Rattle.std.proofs.Common.{◌-◌, length}
use Rattle.replay_lines.proofs.Cuts.{Walked}
use Rattle.replay_lines.proofs.cutting.part_end.Given as goal

abbrev pub invariant-loop-end : goal.invariant-loop-end
invariant-loop-end l = Walked l.values l.text l.end l.line l.begins_line

abbrev pub decreases-loop-end : goal.decreases-loop-end
decreases-loop-end l = length l.text - l.end
