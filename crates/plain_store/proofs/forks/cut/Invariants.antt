use Rattle.std.proofs.Common.{◌≡◌, ℕ, ◌≤◌, take, length}
use Rattle.std.specs.Prelude.{slice_get}
use Rattle.plain_store.specs.Swaps.{AreCut, first_kept, first_other}
use Rattle.plain_store.proofs.forks.cut.Given as goal

abbrev pub invariant-loop-index : goal.invariant-loop-index
invariant-loop-index l =
    AreCut l.fn.cells l.cells (take l.index l.fn.lent) (take l.index l.lent) (first_kept l.fn.lent) (first_other l.fn.lent) l.stamp
    × ((i : ℕ) → l.index ≤ i → slice_get l.lent i ≡ slice_get l.fn.lent i) × (length l.lent ≡ length l.fn.lent)
