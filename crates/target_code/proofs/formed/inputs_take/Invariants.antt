use Rattle.std.proofs.Common.{◌≡◌, ◌+◌, drop}
use Rattle.target_code.specs.Formed as spec
use Rattle.target_code.proofs.formed.inputs_take.Given as goal

abbrev pub invariant-loop-input : goal.invariant-loop-input
invariant-loop-input l = spec.input_width l.ins + l.left ≡ l.args + spec.input_width (drop l.input-index l.ins)
