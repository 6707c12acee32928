use Rattle.std.proofs.Common.{◌≡◌, ◌≤◌, ◌<◌, ℕ, take}
use Rattle.share_table.specs.Amounts.{amount}
use Rattle.share_table.proofs.borders.next_border.Given as goal

abbrev pub invariant-loop-entry : goal.invariant-loop-entry
invariant-loop-entry l =
    (l.place < l.next) × (l.next ≤ l.last)
    × ((o j : ℕ) → l.place ≤ j → j < l.next → amount (take l.entry-index l.entries) o l.block j ≡ amount (take l.entry-index l.entries) o l.block l.place)
