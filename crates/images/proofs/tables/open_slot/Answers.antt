use Rattle.images.proofs.Steps.{open_step}
use Rattle.images.proofs.tables.open_slot.Goals as goal

pub loop-turn-preserved : goal.loop-turn-preserved
loop-turn-preserved c =
    let inv = c.loop-turn.invariant in
    open_step c.args.width c.args.slots c.args.words.now c.args.home c.loop-turn.slot c.loop-turn.turn inv.0 c.loop-turn-test.true inv.1 c.if-words-width-eq0.false
