use Rattle.target_meaning.proofs.Parts.{more_parts}
use Rattle.target_meaning.proofs.frame.parts_in.Goals as goal

pub loop-hand-preserved : goal.loop-hand-preserved
loop-hand-preserved c = more_parts c.args.hands.now c.args.registers.now c.loop-hand.hand-index _ c.loop-hand.parts.items c.push.new.self.items c.part_in.result c.loop-hand-test.true c.part_in.ensures c.in_ok-push.ensures.items c.loop-hand.invariant
