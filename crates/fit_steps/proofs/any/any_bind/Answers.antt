use Rattle.std.proofs.Common.{◌∷◌, [], ap, subst}
use Rattle.fit_state.specs.States.{IsKnown}
use Rattle.fit_steps.proofs.PlainLemmas.{any_is, bound_grows}
use Rattle.fit_tokens.specs.Changes.{tokens_of}
use Rattle.fits.specs.Places.{bind_words}
use Rattle.rule_check.specs.Steps.{bare}
use Rattle.target_code.specs.declared.tree.Rep.TheVariants as r
use Rattle.fit_steps.proofs.any.any_bind.Goals as goal

pub returns-clause-bound : goal.returns-clause-bound
returns-clause-bound c = λ R s is.
    let o = c.args.chosen.now in
    let new = c.bind_words_known.new.state in
    any_is R c.args.state.now c.choose.new.state new s o.out (tokens_of o.words.now) o.high c.in_ok-choose.ensures.context c.len.ensures.differ c.bind_words_known.ensures.rules is
    (λ t h. subst (λ ws. IsKnown R new (bind_words t (o.out ∷ []) (bare r.Word ∷ []) (tokens_of ws ∷ []))) c.in_ok-from_slice.ensures (c.in_ok-bind_words_known.ensures.known R t h))

pub returns-clause-grows : goal.returns-clause-grows
returns-clause-grows c = λ order.
    let o = c.args.chosen.now in
    bound_grows c.args.state.now c.choose.new.state c.bind_words_known.new.state o.out (bare r.Word) c.in_ok-choose.ensures.grows (ap (λ z. z.spots) c.in_ok-choose.ensures.context) (c.in_ok-bind_words_known.ensures.grows order)
