use Rattle.run_results.proofs.Held.{Begun}
use Rattle.run_results.proofs.block.held_words.Given as goal

abbrev pub invariant-loop-index : goal.invariant-loop-index
invariant-loop-index g l = Begun (g.S.Store.kept l.store).top l.block l.len l.words.items l.index
