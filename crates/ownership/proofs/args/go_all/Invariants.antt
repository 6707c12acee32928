use Rattle.std.proofs.Common.{◌≡◌, take}
use Rattle.context_laws.specs.Steps.{with_spots}
use Rattle.ownership.specs.Entries.{spots_of}
use Rattle.rule_check.specs.Context as d
use Rattle.ownership.proofs.args.go_all.Given as goal

abbrev pub invariant-each : goal.invariant-each
invariant-each l = l.context ≡ with_spots l.initial.context (d.all_go (d.vars_of (spots_of (take l.entry-index l.entries))) l.initial.context.spots)
