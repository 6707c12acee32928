use Rattle.ownership.proofs.StepsLemmas.{shapes_step}
use Rattle.ownership.proofs.args.shapes.Goals as goal

pub each-preserved : goal.each-preserved
each-preserved c = shapes_step c.args.entries.now c.each.entry-index _ c.each.shapes c.push.new.self c.shape.result c.each-test.true c.each.invariant c.shape.ensures c.in_ok-push.ensures.ok
