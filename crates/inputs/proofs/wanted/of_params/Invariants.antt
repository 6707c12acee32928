use Rattle.std.proofs.Common.{◌≡◌, ◌++◌, drop}
use Rattle.inputs.specs.Inputs as rules
use Rattle.inputs.specs.Kept.{asked}
use Rattle.inputs.proofs.wanted.of_params.Given as goal

-- what was asked for stands in front of what is left
abbrev pub invariant-loop-param : goal.invariant-loop-param
invariant-loop-param l = rules.by_types l.params ≡ asked l.wanted.items ++ rules.by_types (drop l.param-index l.params)
