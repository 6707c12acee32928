use Rattle.std.proofs.Common.{◌∙◌, ap}
use Rattle.fit_state.proofs.InfosLemmas.{lists_step}
use Rattle.fit_state.proofs.infos.info_words.Goals as goal

pub each-preserved : goal.each-preserved
each-preserved c = lists_step c.args.infos.now c.each.info-index c.info-item.result c.each.all c.push.new.self c.in_ok-from_slice.field-0 c.each-test.true c.each.invariant (c.in_ok-from_slice.ensures ∙ c.as_slice.ensures ∙ ap (λ i. i.words) c.info-item.is) c.in_ok-push.ensures.ok
