use Rattle.std.proofs.Common.{◌≡◌, ℕ, ◌≤◌, take, length}
use Rattle.std.specs.Prelude.{slice_get}
use Rattle.plain_store.specs.Swaps.{AreSwapped}
use Rattle.plain_store.proofs.forks.swap.Given as goal

abbrev pub invariant-loop-index : goal.invariant-loop-index
invariant-loop-index l =
    AreSwapped l.fn.cells l.cells (take l.index l.fn.lent) (take l.index l.lent) l.stamp
    × ((i : ℕ) → l.index ≤ i → slice_get l.lent i ≡ slice_get l.fn.lent i) × (length l.lent ≡ length l.fn.lent)
