use Rattle.std.proofs.Common.{◌≡◌, ℕ, ◌≤◌, nat_eq, true, drop, length}
use Rattle.std.specs.List.{list_any}
use Rattle.indexmap.specs.IndexSet.{contains}
use Rattle.target_code.specs.Reserved.{are_distinct}
use Rattle.target_judge.proofs.fits.are_distinct.Given as goal

abbrev pub invariant-loop-end : goal.invariant-loop-end
invariant-loop-end l =
    (l.end ≤ length l.registers) × (are_distinct nat_eq (drop l.end l.registers) ≡ true)
    × ((q : ℕ) → contains nat_eq l.seen q ≡ list_any (nat_eq q) (drop l.end l.registers))

abbrev pub decreases-loop-end : goal.decreases-loop-end
decreases-loop-end l = l.end
