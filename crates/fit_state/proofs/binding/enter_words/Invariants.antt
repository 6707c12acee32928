use Rattle.std.proofs.Common.{◌≡◌, drop}
use Rattle.fit_state.specs.Infos.{lists_of}
use Rattle.fit_state.specs.States as st
use Rattle.ownership.specs.Entries.{shapes_of}
use Rattle.fit_state.proofs.binding.enter_words.Given as goal

abbrev pub invariant-each : goal.invariant-each
invariant-each l = record {
  entered : st.entered l.initial.state l.outs (shapes_of l.shapes) (lists_of l.words) ≡ st.entered l.state (drop l.index l.outs) (shapes_of (drop l.index l.shapes)) (lists_of (drop l.index l.words));
  rules : l.state.rules ≡ l.initial.state.rules;
}
