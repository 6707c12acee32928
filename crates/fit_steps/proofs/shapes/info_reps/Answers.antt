use Rattle.std.proofs.Common.{◌∙◌, ◌++◌, ◌∷◌, [], ap}
use Rattle.fit_state.specs.Infos.{infos_of}
use Rattle.fits.specs.Places.{info_reps}
use Rattle.fit_steps.proofs.ShapesLemmas.{reps_step}
use Rattle.fit_steps.proofs.shapes.info_reps.Goals as goal

pub each-preserved : goal.each-preserved
each-preserved c = reps_step c.args.infos.now c.each.info-index c.info-item.result c.each.reps c.push.new.self (info_reps (infos_of c.args.infos.now)) c.each-test.true (c.in_ok-push.ensures.ok ∙ ap (λ i. c.each.reps ++ i.shape.rep ∷ []) c.info-item.is) c.each.invariant
