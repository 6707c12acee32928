use Rattle.same_procs.proofs.Lists.{hands_over}
use Rattle.same_procs.proofs.same.same_hands.Goals as goal

pub returns-in-empty : goal.returns-in-empty
returns-in-empty c = hands_over _ _ _ _ c.loop-hand.invariant c.loop-hand-test.true c.in-empty.len_below
