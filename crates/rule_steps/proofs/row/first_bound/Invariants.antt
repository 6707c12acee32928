use Rattle.std.proofs.Common.{◌≡◌, drop}
use Rattle.ownership.specs.Entries.{spots_of}
use Rattle.rule_check.specs.Context.{reps_of}
use Rattle.rule_check.specs.Table.{bound_of}
use Rattle.rule_steps.proofs.row.first_bound.Given as goal

abbrev pub invariant-each : goal.invariant-each
invariant-each l = bound_of (reps_of (spots_of l.entries)) ≡ bound_of (reps_of (spots_of (drop l.entry-index l.entries)))
