use Rattle.std.proofs.Common.{◌≡◌, drop}
use Rattle.ownership.specs.Entries.{spots_of}
use Rattle.rule_check.specs.Context.{reps_of}
use Rattle.rule_check.specs.Steps.{stand_for}
use Rattle.proc_rules.proofs.call.stand_for.Given as goal

abbrev pub invariant-each : goal.invariant-each
invariant-each l = stand_for (reps_of (spots_of (drop l.entry-index l.entries))) l.left ≡ stand_for (reps_of (spots_of l.entries)) l.fn.params
