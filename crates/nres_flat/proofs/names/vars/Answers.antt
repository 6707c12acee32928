use Rattle.nres_flat.proofs.Lookups.{vars_more}
use Rattle.nres_flat.proofs.names.vars.Goals as goal

pub each-preserved : goal.each-preserved
each-preserved c = vars_more c.args.numbers.now c.each.number-index 0 c.each-test.true c.each.invariant c.in_ok-push.ensures.ok
