use Rattle.std.proofs.Common.{◌≡◌, ◌≤◌, ◌*◌, take}
use Rattle.target_code.specs.Formed.{result_width}
use Rattle.target_judge.proofs.judging.results_width.Given as goal

abbrev pub invariant-loop-rep : goal.invariant-loop-rep
invariant-loop-rep l = (l.total ≡ result_width (take l.rep-index l.outs)) × (l.total ≤ 4 * l.rep-index)
