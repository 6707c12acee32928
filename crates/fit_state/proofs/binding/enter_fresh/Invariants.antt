use Rattle.std.proofs.Common.{◌≡◌, drop}
use Rattle.fit_state.specs.States.{entered_fresh}
use Rattle.ownership.specs.Entries.{shapes_of}
use Rattle.fit_state.proofs.binding.enter_fresh.Given as goal

abbrev pub invariant-each : goal.invariant-each
invariant-each l = record {
  entered : entered_fresh l.initial.state l.outs (shapes_of l.shapes) ≡ entered_fresh l.state (drop l.index l.outs) (shapes_of (drop l.index l.shapes));
  rules : l.state.rules ≡ l.initial.state.rules;
}
