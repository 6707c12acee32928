use Rattle.std.proofs.Common.{◌≡◌, ◌≤◌}
use Rattle.fit_state.proofs.LeftLemmas.{AllPast}
use Rattle.fit_state.specs.Left.{none_below}
use Rattle.fit_state.proofs.left.left_below.Given as goal

abbrev pub invariant-each : goal.invariant-each
invariant-each l = record {
  within : l.place ≤ l.limit;
  none : none_below l.context.spots l.mark l.gone l.limit ≡ none_below l.context.spots l.mark l.gone l.place;
  past : AllPast l.context.spots l.mark l.gone l.place l.limit;
}

abbrev pub decreases-each : goal.decreases-each
decreases-each l = l.place
