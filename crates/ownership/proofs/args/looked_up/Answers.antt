use Rattle.ownership.proofs.StepsLemmas.{looked_step}
use Rattle.ownership.proofs.args.looked_up.Goals as goal

pub each-preserved : goal.each-preserved
each-preserved c = looked_step c.args.context.now.spots c.args.args.now c.each.arg-index _ c.each.entries c.push.new.self c.arg_entry.result c.each-test.true c.each.invariant c.arg_entry.ensures c.in_ok-push.ensures.ok
