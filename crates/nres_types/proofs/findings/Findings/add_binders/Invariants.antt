use Rattle.std.proofs.Common.{◌≡◌, drop}
use Rattle.nres_rules.specs.Types.{types_for}
use Rattle.nres_types.specs.Findings.{told_of, bound_all}
use Rattle.nres_types.proofs.findings.Findings.add_binders.Given as goal

abbrev pub invariant-loop-at : goal.invariant-loop-at
invariant-loop-at l = bound_all (told_of l.fn.self) (types_for l.names l.types) ≡ bound_all (told_of l.self) (drop l.at (types_for l.names l.types))
