use Rattle.std.proofs.Common.{◌≡◌, drop}
use Rattle.rule_check.specs.Table.{bound_of}
use Rattle.fit_steps.proofs.shapes.first_bound.Given as goal

abbrev pub invariant-each : goal.invariant-each
invariant-each l = bound_of l.reps ≡ bound_of (drop l.rep-index l.reps)
