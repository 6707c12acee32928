use Rattle.op_identify.proofs.Fronts.{step_turn, steps_done}
use Rattle.op_identify.proofs.Layers.{returned}
use Rattle.op_identify.proofs.block.+block.Goals as goal

pub block-returns-in-Ok : goal.block-returns-in-Ok
block-returns-in-Ok t c = returned c.args.tree.now c.in_ok-steps.steps c.args.ops.now c.in-Ok.results c.as_slice.ensures c.in_ok-steps.ensures c.as_slice-2.ensures c.in-Ok.ensures

pub steps-each-preserved : goal.steps-each-preserved
steps-each-preserved t c = step_turn c.each.all c.in_ok-step.field-0 c.args.trees.now c.each.ops c.each.invariant c.each-test.true c.tree-item.is c.in_ok-step.ensures c.in_ok-push.ensures.ok

pub steps-returns : goal.steps-returns
steps-returns t c = steps_done c.each.all c.args.trees.now c.each.invariant c.each-test.false
