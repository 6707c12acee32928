use Rattle.std.proofs.Common.{◌≡◌, drop}
use Rattle.ownership.specs.Entries.{spots_of}
use Rattle.rule_check.specs.Context as d
use Rattle.ownership.proofs.tests.first_clash.Given as goal

abbrev pub invariant-each : goal.invariant-each
invariant-each l = d.first_clash (spots_of l.destroyed) (spots_of l.entries) ≡ d.first_clash (spots_of l.destroyed) (spots_of (drop l.index l.entries))
