use Rattle.images.proofs.Steps.{slots_step}
use Rattle.images.proofs.tables.slots_for.Goals as goal

pub loop-done-preserved : goal.loop-done-preserved
loop-done-preserved c =
    let inv = c.loop-done.invariant in
    slots_step c.args.count c.loop-done.done c.loop-done.slots inv.0 c.loop-done-test.true c.if-count-slots.false c.requires inv.2
