use Rattle.op_identify.proofs.Fronts.{fun_turn}
use Rattle.op_identify.proofs.whole.funs.Goals as goal

pub each-preserved : goal.each-preserved
each-preserved c = fun_turn c.args.list.now c.each.same c.args.ops.now c.each.invariant c.each-test.true c.item-item.is c.in_ok-fun.ensures.same c.in_ok-fun.ensures.left c.in_ok-push.ensures.ok
