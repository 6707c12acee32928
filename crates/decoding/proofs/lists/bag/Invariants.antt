use Rattle.std.proofs.Common.{◌≡◌, ◌<◌, ◌≤◌, ◌*◌, ◌/◌, ◌^◌, ◌+◌, ◌-◌, ℕ, length, drop, not, ◌||◌, nat_lt, eqb}
use Rattle.containers.specs.Bag.{bag_of}
use Rattle.relations.specs.Represents.{count, is_full, is_used}
use Rattle.image_laws.specs.Held as held
use Rattle.decoding.proofs.lists.bag.Given as goal

abbrev pub invariant-loop-done : goal.invariant-loop-done
invariant-loop-done l = (l.count ≡ length l.numbers) × (l.bag ≡ bag_of (drop (l.count - l.done) l.numbers))
