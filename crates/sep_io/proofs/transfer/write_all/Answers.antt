use Rattle.std.proofs.Common.{arith, length-drop, length-take}
use Rattle.sep_io.proofs.Runs.{sends_more}
use Rattle.sep_io.proofs.transfer.write_all.Goals as goal

pub loop-sent-preserved : goal.loop-sent-preserved
loop-sent-preserved g c = (
  omega (arith, simp (length-take, length-drop) at c.in_ok-taken.ensures.bound),
  sends_more _ _ _ _ _ _ c.loop-sent.invariant.1 c.in_ok-taken.ensures.bytes,
  omega (arith, c.in_ok-taken.ensures.count),
)
