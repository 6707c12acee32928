use Rattle.std.proofs.Common.{◌≡◌, ◌<◌, ◌≤◌, ◌*◌, ◌/◌, ◌^◌, ◌+◌, ◌-◌, ◌++◌, ℕ, length, drop, replicate}
use Rattle.relations.specs.Images as images
use Rattle.images.specs.Encoding.{first_from, IsSlots}
use Rattle.images.proofs.lists.with_room.Given as goal

abbrev pub invariant-loop-done : goal.invariant-loop-done
invariant-loop-done l = l.block.items ≡ l.fn.block.items ++ replicate l.done 0
