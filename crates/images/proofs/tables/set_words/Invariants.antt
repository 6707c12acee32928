use Rattle.std.proofs.Common.{◌≡◌, ◌<◌, ◌≤◌, ◌*◌, ◌/◌, ◌^◌, ◌+◌, ◌-◌, ◌++◌, ℕ, length, drop, replicate}
use Rattle.relations.specs.Images as images
use Rattle.images.specs.Encoding.{first_from, IsSlots}
use Rattle.images.proofs.tables.set_words.Given as goal

abbrev pub invariant-loop-number : goal.invariant-loop-number
invariant-loop-number l = (images.inserted 2 l.slots (replicate (2 * l.slots) 0) (images.set_entries l.numbers) ≡ images.inserted 2 l.slots l.words.items (images.set_entries (drop l.number-index l.numbers))) × (length l.words.items ≡ 2 * l.slots)
