use Rattle.std.proofs.Common.{take}
use Rattle.plain_store.specs.Swaps.{AreJoined}
use Rattle.plain_store.proofs.forks.rejoin.Given as goal

abbrev pub invariant-loop-part : goal.invariant-loop-part
invariant-loop-part l = AreJoined l.fn.cells l.cells (take l.part-index l.lent)
