use Rattle.run_results.proofs.Values.{SoFar}
use Rattle.run_results.proofs.showing.results.Given as goal

abbrev pub invariant-loop-index : goal.invariant-loop-index
invariant-loop-index g l = SoFar (g.S.Store.kept l.store).top l.outs l.fn.regs l.index l.rest l.values.items
