use Rattle.std.proofs.Common.{◌∙◌, ◌++◌, ◌∷◌, [], ap}
use Rattle.fit_state.proofs.InfosLemmas.{shapes_step}
use Rattle.fit_state.proofs.infos.info_shapes.Goals as goal

pub each-preserved : goal.each-preserved
each-preserved c = shapes_step c.args.infos.now c.each.info-index c.info-item.result c.each.shapes c.push.new.self c.each-test.true c.each.invariant (c.in_ok-push.ensures.ok ∙ ap (λ i. c.each.shapes ++ i.shape ∷ []) c.info-item.is)
