use Rattle.std.proofs.Common.{◌∙◌, sym, arith}
use Rattle.fit_state.proofs.ShapesLemmas.{order_lengths, order_step}
use Rattle.fit_state.proofs.shapes.in_order.Goals as goal

pub returns-then-outs-shapes : goal.returns-then-outs-shapes
returns-then-outs-shapes c = sym (order_lengths c.args.next c.args.outs.now c.args.shapes.now c.if-outs-shapes.true)

pub each-preserved : goal.each-preserved
each-preserved c =
    let a = c.from.ensures in
    let b = c.from-bound.ensures in
    let d = c.if-from-bound.false in
    c.each.invariant ∙ order_step c.each.bound _ c.args.outs.now c.args.shapes.now c.each.out-index c.each-test.true c.if-outs-shapes.false (omega arith) (omega arith)
