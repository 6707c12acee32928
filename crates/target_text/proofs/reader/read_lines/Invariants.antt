use Rattle.std.proofs.Common.{◌≤◌, ◌+◌, length}
use Rattle.target_text.specs.Runs.{Took}
use Rattle.target_judge.specs.Reads as reads
use Rattle.target_text.proofs.reader.read_lines.Given as goal

abbrev pub invariant-loop-rest : goal.invariant-loop-rest
invariant-loop-rest l = Took l.lends l.bytes l.count (reads.judged_of l.judged) l.rest × (l.count + length l.rest ≤ length l.bytes)

abbrev pub decreases-loop-rest : goal.decreases-loop-rest
decreases-loop-rest l = length l.rest
