use Rattle.std.proofs.Common.{◌≡◌, length}
use Rattle.std.specs.Prelude.{Some}
use Rattle.fit_state.proofs.OwnersLemmas.{limit}
use Rattle.fit_state.specs.Owners.{owner_in, owner_below}
use Rattle.fit_tokens.specs.Changes.{token_of}
use Rattle.fit_state.proofs.owner.owner.Given as goal

abbrev pub invariant-each : goal.invariant-each
invariant-each l = length l.state.rules.context.spots ≡ length l.state.words → owner_in l.state.rules.context.spots l.state.words (Some (token_of l.token)) ≡ owner_below l.state.rules.context.spots l.state.words (Some (token_of l.token)) (limit l.place)

abbrev pub decreases-each : goal.decreases-each
decreases-each l = limit l.place
