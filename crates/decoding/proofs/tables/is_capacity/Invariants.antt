use Rattle.std.proofs.Common.{◌≡◌, ◌<◌, ◌≤◌, ◌*◌, ◌/◌, ◌^◌, ◌+◌, ◌-◌, ℕ, length, drop, not, ◌||◌, nat_lt, eqb}
use Rattle.containers.specs.Bag.{bag_of}
use Rattle.relations.specs.Represents.{count, is_full, is_used}
use Rattle.image_laws.specs.Held as held
use Rattle.decoding.proofs.tables.is_capacity.Given as goal

abbrev pub invariant-loop-exponent : goal.invariant-loop-exponent
invariant-loop-exponent l = l.found ≡ held.some (held.is_size l.capacity) l.exponent
