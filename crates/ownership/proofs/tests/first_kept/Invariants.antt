use Rattle.std.proofs.Common.{◌≡◌, drop}
use Rattle.ownership.specs.Entries.{spots_of}
use Rattle.rule_check.specs.Context as d
use Rattle.ownership.proofs.tests.first_kept.Given as goal

abbrev pub invariant-each : goal.invariant-each
invariant-each l = d.first_kept (spots_of l.entries) ≡ d.first_kept (spots_of (drop l.entry-index l.entries))
