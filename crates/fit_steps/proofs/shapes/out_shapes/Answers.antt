use Rattle.fit_steps.proofs.ShapesLemmas.{out_step}
use Rattle.fit_steps.specs.Parts as parts
use Rattle.fit_steps.proofs.shapes.out_shapes.Goals as goal

pub each-preserved : goal.each-preserved
each-preserved c =
    let ss = c.args.context.now.spots in
    out_step ss c.args.outs.now c.each.out-index 0 c.each.shapes c.push.new.self c.shape.result c.var_entry.result (parts.out_shapes ss c.args.outs.now) c.each-test.true
    c.shape.ensures c.var_entry.ensures c.in_ok-push.ensures.ok c.each.invariant
