use Rattle.std.proofs.Common.{◌≡◌, ◌<◌, ◌≤◌, ◌*◌, ◌/◌, ◌^◌, ◌+◌, ◌-◌, ◌++◌, ℕ, length, drop, replicate}
use Rattle.relations.specs.Images as images
use Rattle.images.specs.Encoding.{first_from, IsSlots}
use Rattle.images.proofs.bounded.first_key_from.Given as goal

abbrev pub invariant-loop-entry : goal.invariant-loop-entry
invariant-loop-entry l = first_from l.bound (images.keys_of l.entries) ≡ first_from l.bound (images.keys_of (drop l.entry-index l.entries))
