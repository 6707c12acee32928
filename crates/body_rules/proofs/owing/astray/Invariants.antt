use Rattle.std.proofs.Common.{◌≡◌, drop}
use Rattle.ownership.specs.Entries.{spots_of}
use Rattle.rule_check.specs.Context.{shapes_of}
use Rattle.rule_check.specs.Steps.{slices_are}
use Rattle.body_rules.proofs.owing.astray.Given as goal

abbrev pub invariant-each : goal.invariant-each
invariant-each l = slices_are l.left (drop l.index l.shown) (shapes_of (spots_of (drop l.index l.results))) ≡ slices_are l.fn.slices l.shown (shapes_of (spots_of l.results))
