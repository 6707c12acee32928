use Rattle.plain_store.proofs.Cleared.{ClearedTo}
use Rattle.plain_store.proofs.cells.give_up.Given as goal

abbrev pub invariant-loop-at : goal.invariant-loop-at
invariant-loop-at l = ClearedTo l.fn.cells l.cells l.border l.block l.len l.at
