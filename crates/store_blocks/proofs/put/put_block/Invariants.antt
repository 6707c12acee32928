use Rattle.std.proofs.Common.{◌≡◌}
use Rattle.branch_exec.specs.Stores.{with_top}
use Rattle.store_blocks.proofs.Putting.{half_block}
use Rattle.store_blocks.proofs.put.put_block.Given as goal

abbrev pub invariant-loop-index : goal.invariant-loop-index
invariant-loop-index g l = g.S.Store.kept l.store ≡ with_top (g.S.Store.kept l.initial.store) (half_block (g.S.Store.kept l.fn.store).top l.name l.words l.index)
