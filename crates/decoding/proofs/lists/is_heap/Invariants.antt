use Rattle.std.proofs.Common.{◌≡◌, ◌<◌, ◌≤◌, ◌*◌, ◌/◌, ◌^◌, ◌+◌, ◌-◌, ℕ, length, drop, not, ◌||◌, nat_lt, eqb}
use Rattle.containers.specs.Bag.{bag_of}
use Rattle.relations.specs.Represents.{count, is_full, is_used}
use Rattle.image_laws.specs.Held as held
use Rattle.decoding.proofs.lists.is_heap.Given as goal

abbrev pub invariant-loop-at : goal.invariant-loop-at
invariant-loop-at l = l.heap ≡ held.is_heap l.at l.words
