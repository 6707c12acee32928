use Rattle.std.proofs.Common.{◌≡◌, ◌≤◌, ◌<◌}
use Rattle.plain_store.specs.Cuts.{Lists}
use Rattle.plain_store.proofs.lists.add_range.Given as goal

abbrev pub invariant-loop-at : goal.invariant-loop-at
invariant-loop-at l =
    Lists l.store.cells.items l.store.border l.left l.right l.fn.lent.items l.lent.items
    (λ i c. (l.fn.range.0 ≤ i) × (i < l.at) × (c.home ≡ l.block))
