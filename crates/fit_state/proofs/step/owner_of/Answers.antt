use Rattle.std.proofs.Common.{◌∙◌, ap, sym, length}
use Rattle.std.specs.Option.{option_map}
use Rattle.std.specs.Prelude.{Some}
use Rattle.fit_tokens.specs.Changes.{token_of}
use Rattle.fits.specs.Follow.{owner}
use Rattle.fit_state.proofs.InfosLemmas.{counts}
use Rattle.fit_state.proofs.OwnersLemmas.{owner_same, owner_none}
use Rattle.fit_state.proofs.step.owner_of.Goals as goal

pub returns-in-Some : goal.returns-in-Some
returns-in-Some c = λ R s h.
    c.owner.ensures (counts c.args.state.now.rules.context.spots s.hold s.entries h.held.same.spots ∙ ap length (sym h.known.words))
    ∙ owner_same c.args.state.now.rules.context.spots s.hold s.entries c.args.state.now.words (Some (token_of c.in-Some.token)) h.held.same.spots h.known.words
    ∙ ap (owner s.entries s.hold) (ap (option_map token_of) (sym c.in-Some.is) ∙ c.get.ensures ∙ ap (λ f. f c.args.block) h.known.tokens)

pub returns-in-None : goal.returns-in-None
returns-in-None c = λ R s h.
    sym (owner_none s.entries s.hold) ∙ ap (owner s.entries s.hold) (ap (option_map token_of) (sym c.in-None.is) ∙ c.get.ensures ∙ ap (λ f. f c.args.block) h.known.tokens)
