use Rattle.std.proofs.Common.{◌≡◌, take}
use Rattle.ownership.specs.Entries.{spots_of}
use Rattle.rule_check.specs.Context.{reps_of}
use Rattle.rule_steps.proofs.refusing.reps.Given as goal

abbrev pub invariant-each : goal.invariant-each
invariant-each l = l.reps ≡ reps_of (spots_of (take l.entry-index l.entries))
