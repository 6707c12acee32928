use Rattle.std.proofs.Common.{◌≡◌, take}
use Rattle.ownership.specs.Entries.{spots_of, shapes_of}
use Rattle.rule_check.specs.Context as d
use Rattle.ownership.proofs.args.shapes.Given as goal

abbrev pub invariant-each : goal.invariant-each
invariant-each l = shapes_of l.shapes ≡ d.shapes_of (spots_of (take l.entry-index l.entries))
