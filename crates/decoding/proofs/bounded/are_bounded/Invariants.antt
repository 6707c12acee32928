use Rattle.std.proofs.Common.{◌≡◌, ◌<◌, ◌≤◌, ◌*◌, ◌/◌, ◌^◌, ◌+◌, ◌-◌, ℕ, length, drop, not, ◌||◌, nat_lt, eqb}
use Rattle.containers.specs.Bag.{bag_of}
use Rattle.relations.specs.Represents.{count, is_full, is_used}
use Rattle.image_laws.specs.Held as held
use Rattle.decoding.proofs.bounded.are_bounded.Given as goal

abbrev pub invariant-loop-number : goal.invariant-loop-number
invariant-loop-number l = l.bounded ≡ held.every (λ x. not (held.has_bit l.words x) || nat_lt x l.bound) l.number
