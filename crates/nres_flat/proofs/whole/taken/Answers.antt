use Rattle.nres_flat.proofs.Params.{taken_more}
use Rattle.nres_flat.proofs.whole.taken.Goals as goal

pub each-preserved : goal.each-preserved
each-preserved c = taken_more c.args.params.now c.each.param-index _ c.each-test.true c.param-item.is c.in_ok-copy.ensures c.each.invariant c.in_ok-push.ensures.ok
