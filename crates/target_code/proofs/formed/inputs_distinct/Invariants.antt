use Rattle.std.proofs.Common.{◌≡◌, length}
use Rattle.target_code.specs.Formed as spec
use Rattle.target_code.proofs.formed.inputs_distinct.Given as goal

abbrev pub invariant-loop-rest : goal.invariant-loop-rest
invariant-loop-rest l = spec.inputs_distinct l.ins ≡ spec.inputs_distinct l.rest

abbrev pub decreases-loop-rest : goal.decreases-loop-rest
decreases-loop-rest l = length l.rest
