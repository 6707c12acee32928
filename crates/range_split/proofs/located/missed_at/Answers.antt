use Rattle.std.proofs.Common.{◌+◌, ap, ◌∙◌, sym, drop}
use Rattle.range_split.specs.Places.{oldest_gone, picked}
use Rattle.range_split.proofs.StepsLemmas.{next, gone_first, none_gone, ascend_step}
use Rattle.range_split.proofs.located.missed_at.Goals as goal

pub returns-in-Some : goal.returns-in-Some
returns-in-Some c =
    ap (λ o. next o (oldest_gone (picked (drop (c.each.place-index + 1) c.args.places.now) c.args.context.now.spots))) c.in-Some.ensures
    ∙ sym (gone_first c.args.places.now c.each.place-index c.args.context.now.spots c.each-test.true c.each.invariant.1) ∙ c.each.invariant.0

pub each-preserved : goal.each-preserved
each-preserved c = (
  ap (λ o. next o (oldest_gone (picked (drop (c.each.place-index + 1) c.args.places.now) c.args.context.now.spots))) (sym c.in_default.is ∙ c.gone_at.ensures)
      ∙ sym (gone_first c.args.places.now c.each.place-index c.args.context.now.spots c.each-test.true c.each.invariant.1) ∙ c.each.invariant.0,
  ascend_step c.args.places.now c.each.place-index c.each-test.true c.each.invariant.1,
)

pub returns : goal.returns
returns c = sym (none_gone c.args.places.now c.each.place-index c.args.context.now.spots c.each-test.false) ∙ c.each.invariant.0
