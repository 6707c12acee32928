use Rattle.plain_store.proofs.Listed.{range_end, range_next, range_none}
use Rattle.plain_store.proofs.lists.add_range.Goals as goal

pub loop-at-init : goal.loop-at-init
loop-at-init c = range_none c.args.store.now.cells.items c.args.store.now.border c.args.left.now c.args.right.now c.args.lent.now.items c.args.range.0 c.args.block

pub loop-at-preserved : goal.loop-at-preserved
loop-at-preserved c =
    range_next c.args.store.now.cells.items c.args.store.now.border c.args.left.now c.args.right.now c.args.lent.now.items c.loop-at.lent.items c.add_cell.new.lent.items c.args.range.0 c.loop-at.at c.args.block
    c.loop-at.invariant c.in_ok-add_cell.ensures

pub returns : goal.returns
returns c =
    range_end c.args.store.now.cells.items c.args.store.now.border c.args.left.now c.args.right.now c.args.lent.now.items c.loop-at.lent.items c.args.range.0 c.loop-at.at c.args.range.1 c.args.block
    c.loop-at-test.false c.loop-at.invariant
