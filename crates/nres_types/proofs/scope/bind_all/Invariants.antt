use Rattle.std.proofs.Common.{◌≡◌, drop}
use Rattle.nres_rules.specs.Types.{with_types}
use Rattle.nres_types.proofs.scope.bind_all.Given as goal

abbrev pub invariant-loop-at : goal.invariant-loop-at
invariant-loop-at l = with_types l.names l.types l.initial.scope ≡ with_types (drop l.at l.names) (drop l.at l.types) l.scope
