use Rattle.std.proofs.Common.{◌≡◌, take}
use Rattle.ownership.specs.Entries.{spots_of}
use Rattle.rule_check.specs.Context as d
use Rattle.ownership.proofs.args.looked_up.Given as goal

abbrev pub invariant-each : goal.invariant-each
invariant-each l = spots_of l.entries ≡ d.looked_up l.context.spots (take l.arg-index l.args)
