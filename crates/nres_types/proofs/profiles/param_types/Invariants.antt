use Rattle.std.proofs.Common.{◌≡◌, ◌++◌, drop}
use Rattle.nres_rules.specs.Types.{param_types}
use Rattle.nres_types.proofs.profiles.param_types.Given as goal

abbrev pub invariant-loop-param : goal.invariant-loop-param
invariant-loop-param l = param_types l.params ≡ l.types.items ++ param_types (drop l.param-index l.params)
