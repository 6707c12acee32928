use Rattle.std.proofs.Common.{◌≡◌, ◌-◌, true, take}
use Rattle.plain_store.specs.Cuts.{Lists, is_in_some}
use Rattle.plain_store.proofs.lists.add_parts.Given as goal

abbrev pub invariant-loop-part : goal.invariant-loop-part
invariant-loop-part l =
    Lists l.store.cells.items l.store.border l.left l.right l.fn.lent.items l.lent.items
    (λ i c. is_in_some (take l.part-index l.parts) c.home (i - c.home) ≡ true)
