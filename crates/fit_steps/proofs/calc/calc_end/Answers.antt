use Rattle.std.proofs.Common.{◌≡◌, ◌∙◌, ◌∷◌, [], true, sym}
use Rattle.fit_steps.proofs.GoingLemmas.{five_of, need_false, need_true}
use Rattle.fit_steps.specs.Parts.{calc_meets, calc_next}
use Rattle.fits.specs.Follow.{all_below, same_calc}
use Rattle.fits.specs.Places.{hold_words, in_order}
use Rattle.rule_check.specs.Steps.{bare, calc_rep}
use Rattle.fit_steps.proofs.calc.calc_end.Goals as goal

pub returns-in-None-clause-stepped : goal.returns-in-None-clause-stepped
returns-in-None-clause-stepped c = λ s ls x y e is go. c.in-None.ensures ls _

pub returns-then-not-meets-clause-stepped : goal.returns-then-not-meets-clause-stepped
returns-then-not-meets-clause-stepped c = λ s ls x y e is go. c.in-Some.ensures ls _ ∙ need_false _ ls _ (sym (c.meets.ensures.meets s x y e is) ∙ c.if-not-meets.true)

pub returns-in_ok-calc_bind-in-Some-clause-stepped : goal.returns-in_ok-calc_bind-in-Some-clause-stepped
returns-in_ok-calc_bind-in-Some-clause-stepped c = λ s ls x y e is.
    let R = c.args.regs in
    let k = c.args.calculation.now in
    let at = c.in-Some.at in
    let t : calc_meets R s k.to k.word x y at.to at.word at.left at.right ≡ true = sym (c.meets.ensures.meets s x y e is) ∙ c.if-not-meets.false in
    record {
      next = calc_next s k.place k.to k.word k.left k.right at.to;
      is = c.in_ok-calc_bind-in-Some.ensures.bound R s (five_of (same_calc at.word k.word) (hold_words s.toks (at.left ∷ []) x.words) (hold_words s.toks (at.right ∷ []) y.words) (all_below R (at.to ∷ [])) (in_order s.next (k.to ∷ []) (bare (calc_rep k.word) ∷ [])) t).fourth is;
      on = λ go. c.in-Some.ensures ls _ ∙ need_true _ ls _ t;
    }

pub returns-in_ok-calc_bind-in-Some-clause-grows : goal.returns-in_ok-calc_bind-in-Some-clause-grows
returns-in_ok-calc_bind-in-Some-clause-grows c = c.in_ok-calc_bind-in-Some.ensures.grows (c.meets.ensures.order c.if-not-meets.false)
