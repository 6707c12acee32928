use Rattle.nres_flat.proofs.Params.{shown_more}
use Rattle.nres_flat.proofs.whole.shown.Goals as goal

pub each-preserved : goal.each-preserved
each-preserved c = shown_more c.args.list.now c.each.item-index _ c.each-test.true c.each.invariant c.in_ok-push.ensures.ok
