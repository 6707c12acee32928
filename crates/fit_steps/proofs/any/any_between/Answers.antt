use Rattle.std.proofs.Common.{◌≡◌, ◌∙◌, ◌∷◌, [], true, false, ap, sym}
use Rattle.std.proofs.lemmas.Option.{MatchOption-at_none, MatchOption-at_some}
use Rattle.fit_state.proofs.HeldLemmas.{grows_then}
use Rattle.fit_steps.proofs.GoingLemmas.{need_false, need_true}
use Rattle.fit_steps.specs.Parts.{any_next}
use Rattle.fit_tokens.specs.Changes.{tokens_of}
use Rattle.fits.specs.Places.{in_order}
use Rattle.rule_check.specs.Steps.{bare}
use Rattle.target_code.specs.declared.tree.Rep.TheVariants as r
use Rattle.fit_steps.proofs.any.any_between.Goals as goal

pub returns-in-None-clause-stepped : goal.returns-in-None-clause-stepped
returns-in-None-clause-stepped c = λ V s ls is go. MatchOption-at_none _ _ c.in-None.is (c.in_ok-pass_until_held.ensures.passed V s is) ls _

pub returns-then-not-in_order-clause-stepped : goal.returns-then-not-in_order-clause-stepped
returns-then-not-in_order-clause-stepped c = λ V s ls is go.
    let o = c.args.chosen.now in
    let g = MatchOption-at_some _ _ c.in-Some.code c.in-Some.is (c.in_ok-pass_until_held.ensures.passed V s is) in
    let order : in_order g.goes.next.next (o.out ∷ []) (bare r.Word ∷ []) ≡ false = ap (λ n. in_order n (o.out ∷ []) (bare r.Word ∷ [])) (sym g.goes.is.known.next) ∙ sym c.in_order.ensures ∙ c.if-not-in_order.true in
    g.goes.on ls _ ∙ need_false _ ls _ order

pub returns-in_ok-any_bind-in-Some-clause-stepped : goal.returns-in_ok-any_bind-in-Some-clause-stepped
returns-in_ok-any_bind-in-Some-clause-stepped c = λ V s ls is.
    let o = c.args.chosen.now in
    let g = MatchOption-at_some _ _ c.in-Some.code c.in-Some.is (c.in_ok-pass_until_held.ensures.passed V s is) in
    let order : in_order g.goes.next.next (o.out ∷ []) (bare r.Word ∷ []) ≡ true = ap (λ n. in_order n (o.out ∷ []) (bare r.Word ∷ [])) (sym g.goes.is.known.next) ∙ sym c.in_order.ensures ∙ c.if-not-in_order.false in
    record {
      next = any_next g.goes.next o.out (tokens_of o.words.now) o.high;
      is = c.in_ok-any_bind-in-Some.ensures.bound c.args.regs g.goes.next g.goes.is;
      on = λ go. g.goes.on ls _ ∙ need_true _ ls _ order;
    }

pub returns-in_ok-any_bind-in-Some-clause-grows : goal.returns-in_ok-any_bind-in-Some-clause-grows
returns-in_ok-any_bind-in-Some-clause-grows c =
    grows_then c.args.state.now c.pass_until_held.new.state c.any_bind.new.state c.in_ok-pass_until_held.ensures.grows (c.in_ok-any_bind-in-Some.ensures.grows (sym c.in_order.ensures ∙ c.if-not-in_order.false))
