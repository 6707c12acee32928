use Rattle.state_values.proofs.Steps.{SoFar}
use Rattle.state_values.proofs.beginning.lay_all.Given as goal

abbrev pub invariant-loop-index : goal.invariant-loop-index
invariant-loop-index l = SoFar l.cap l.ins l.values l.index l.laid.regs.items l.laid.blocks.items l.laid.claimed
