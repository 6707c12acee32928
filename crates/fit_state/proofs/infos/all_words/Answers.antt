use Rattle.std.proofs.Common.{◌∙◌, ap}
use Rattle.fit_state.proofs.InfosLemmas.{words_step}
use Rattle.fit_state.proofs.infos.all_words.Goals as goal

pub each-preserved : goal.each-preserved
each-preserved c = words_step c.args.infos.now c.each.info-index c.info-item.result c.each.all c.append.new.all c.as_slice.result.now c.each-test.true c.each.invariant (c.as_slice.ensures ∙ ap (λ i. i.words) c.info-item.is) c.in_ok-append.ensures
