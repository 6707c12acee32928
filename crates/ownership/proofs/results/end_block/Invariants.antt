use Rattle.std.proofs.Common.{◌≡◌, None}
use Rattle.rule_check.specs.Context as d
use Rattle.ownership.proofs.results.end_block.Given as goal

abbrev pub invariant-each : goal.invariant-each
invariant-each l = d.first_slice (d.inner l.count (d.outer l.index l.context.spots)) ≡ None
