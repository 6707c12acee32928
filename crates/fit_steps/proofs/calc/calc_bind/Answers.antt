use Rattle.std.proofs.Common.{◌≡◌, ◌∷◌, [], true, ap, subst, sym}
use Rattle.fit_state.specs.States.{IsKnown}
use Rattle.fit_steps.proofs.PlainLemmas.{bound_grows, calc_is}
use Rattle.fits.specs.Places.{bind_at, in_order}
use Rattle.rule_check.specs.Steps.{bare, calc_rep}
use Rattle.fit_steps.proofs.calc.calc_bind.Goals as goal

pub returns-clause-bound : goal.returns-clause-bound
returns-clause-bound c = λ R s below is.
    let k = c.args.calculation.now in
    let to = c.args.to in
    let new = c.bind_known.new.state in
    calc_is R c.args.state.now c.calculate.new.state new s k.place k.to k.word k.left k.right to c.in_ok-calculate.ensures.context c.len.ensures.differ c.bind_known.ensures.rules is
    (λ t h. subst (λ z. IsKnown R new (bind_at t (to ∷ []) (k.to ∷ []) (z ∷ []))) c.calc_shape.ensures (c.in_ok-bind_known.ensures.known R t below h))

pub returns-clause-grows : goal.returns-clause-grows
returns-clause-grows c = λ order.
    let k = c.args.calculation.now in
    let x = c.args.state.now in
    bound_grows x c.calculate.new.state c.bind_known.new.state k.to (bare (calc_rep k.word)) c.in_ok-calculate.ensures.grows (ap (λ z. z.spots) c.in_ok-calculate.ensures.context)
    (c.in_ok-bind_known.ensures.grows (subst (λ z. in_order x.next (k.to ∷ []) (z ∷ []) ≡ true) (sym c.calc_shape.ensures) order))
