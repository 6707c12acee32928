use Rattle.std.proofs.Common.{◌≡◌, ◌++◌, drop}
use Rattle.nres_rules.specs.Types.{types_of}
use Rattle.nres_types.proofs.gives.add_types.Given as goal

abbrev pub invariant-loop-at : goal.invariant-loop-at
invariant-loop-at l = l.initial.types.items ++ drop l.from (types_of l.heads) ≡ l.types.items ++ drop l.at (types_of l.heads)
