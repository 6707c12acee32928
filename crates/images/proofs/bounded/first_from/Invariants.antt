use Rattle.std.proofs.Common.{◌≡◌, ◌<◌, ◌≤◌, ◌*◌, ◌/◌, ◌^◌, ◌+◌, ◌-◌, ◌++◌, ℕ, length, drop, replicate}
use Rattle.relations.specs.Images as images
use Rattle.images.specs.Encoding.{first_from, IsSlots}
use Rattle.images.proofs.bounded.first_from.Given as goal

abbrev pub invariant-loop-number : goal.invariant-loop-number
invariant-loop-number l = first_from l.bound l.numbers ≡ first_from l.bound (drop l.number-index l.numbers)
