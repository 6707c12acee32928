use Rattle.std.proofs.Common.{◌≡◌, ◌+◌, drop}
use Rattle.target_code.specs.Formed as spec
use Rattle.target_code.proofs.formed.results_give.Given as goal

abbrev pub invariant-loop-rep : goal.invariant-loop-rep
invariant-loop-rep l = spec.result_width l.outs + l.left ≡ l.count + spec.result_width (drop l.rep-index l.outs)
