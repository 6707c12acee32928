use Rattle.run_inputs.proofs.Placed.{SoFar}
use Rattle.run_inputs.proofs.place.put_inputs.Given as goal

abbrev pub invariant-loop-index : goal.invariant-loop-index
invariant-loop-index g l = SoFar l.ins l.values (g.S.Store.kept l.fn.store) l.index (g.S.Store.kept l.store) l.regs.items
