use Rattle.std.proofs.Common.{◌∙◌, ap, sym}
use Rattle.std.specs.Prelude.{Some}
use Rattle.fit_state.specs.Owners.{owner_below}
use Rattle.fit_tokens.specs.Changes.{token_of}
use Rattle.fit_state.proofs.OwnersLemmas.{limit, owner_init, owner_lower, next_place}
use Rattle.fit_state.proofs.owner.owner.Goals as goal

pub each-init : goal.each-init
each-init c = λ e. owner_init c.args.state.now.rules.context.spots c.args.state.now.words (token_of c.args.token) c.newest-place.result c.newest-place.ensures e

pub each-preserved : goal.each-preserved
each-preserved c = λ e.
    c.each.invariant e
    ∙ ap (λ p. owner_below c.args.state.now.rules.context.spots c.args.state.now.words (Some (token_of c.args.token)) (limit p)) c.in-Some.is
    ∙ owner_lower c.args.state.now.rules.context.spots c.args.state.now.words (token_of c.args.token) c.in-Some.index c.owned_at-found.result c.owned_at-found.ensures (sym c.is_some.ensures ∙ c.if-is_some.false)
    ∙ next_place c.args.state.now.rules.context.spots c.args.state.now.words (token_of c.args.token) c.in-Some.index c.next-place.result c.next-place.ensures
