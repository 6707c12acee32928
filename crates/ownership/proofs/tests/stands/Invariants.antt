use Rattle.std.proofs.Common.{◌≡◌, drop}
use Rattle.ownership.specs.Entries.{spots_of}
use Rattle.rule_check.specs.Context as d
use Rattle.ownership.proofs.tests.stands.Given as goal

abbrev pub invariant-each : goal.invariant-each
invariant-each l = d.stands l.var (spots_of l.entries) ≡ d.stands l.var (spots_of (drop l.entry-index l.entries))
