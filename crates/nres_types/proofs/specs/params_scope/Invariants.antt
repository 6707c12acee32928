use Rattle.std.proofs.Common.{◌≡◌, drop, []}
use Rattle.nres_core.specs.Mirror.{named_params}
use Rattle.nres_rules.specs.Types.{with_types, some_types, param_types}
use Rattle.nres_types.proofs.specs.params_scope.Given as goal

abbrev pub invariant-loop-param : goal.invariant-loop-param
invariant-loop-param l = with_types (named_params l.params) (some_types (param_types l.params)) [] ≡ with_types (named_params (drop l.param-index l.params)) (some_types (param_types (drop l.param-index l.params))) l.scope
