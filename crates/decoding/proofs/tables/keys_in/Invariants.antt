use Rattle.std.proofs.Common.{◌≡◌, ◌<◌, ◌≤◌, ◌*◌, ◌/◌, ◌^◌, ◌+◌, ◌-◌, ℕ, length, drop, not, ◌||◌, nat_lt, eqb}
use Rattle.containers.specs.Bag.{bag_of}
use Rattle.relations.specs.Represents.{count, is_full, is_used}
use Rattle.image_laws.specs.Held as held
use Rattle.decoding.proofs.tables.keys_in.Given as goal

abbrev pub invariant-loop-slot : goal.invariant-loop-slot
invariant-loop-slot l = l.set ≡ held.slot_keys 2 l.words l.slot
