use Rattle.op_identify.proofs.Fronts.{turn, done}
use Rattle.op_identify.proofs.Layers.{applied}
use Rattle.op_identify.proofs.expr.+expr.Goals as goal

pub expr-returns-in_ok-args-in-Apply : goal.expr-returns-in_ok-args-in-Apply
expr-returns-in_ok-args-in-Apply t c = applied c.in_ok-args-in-Apply.args c.args.ops.now c.in-Apply.is c.take-word.ensures.op c.take-word.ensures.others c.as_slice.ensures c.in_ok-args-in-Apply.ensures

pub exprs-each-preserved : goal.exprs-each-preserved
exprs-each-preserved t c = turn c.each.all c.in_ok-expr.field-0 c.args.trees.now c.each.ops c.each.invariant c.each-test.true c.tree-item.is c.in_ok-expr.ensures c.in_ok-push.ensures.ok

pub exprs-returns : goal.exprs-returns
exprs-returns t c = done c.each.all c.args.trees.now c.each.invariant c.each-test.false
