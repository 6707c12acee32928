use Rattle.std.proofs.Common.{◌≡◌, drop}
use Rattle.context_laws.specs.Steps.{with_spots}
use Rattle.ownership.specs.Entries.{shapes_of}
use Rattle.rule_check.specs.Context as d
use Rattle.ownership.proofs.args.bind.Given as goal

abbrev pub invariant-each : goal.invariant-each
invariant-each l = record {
  binding : d.binding l.to (shapes_of l.shapes) l.initial.context.spots ≡ d.binding (drop l.index l.to) (shapes_of (drop l.index l.shapes)) l.context.spots;
  saved : l.context.saved ≡ l.initial.context.saved;
}
