use Rattle.std.proofs.Common.{◌≡◌, ◌<◌, ◌≤◌, ◌*◌, ◌/◌, ◌^◌, ◌+◌, ◌-◌, ◌++◌, ℕ, length, drop, replicate}
use Rattle.relations.specs.Images as images
use Rattle.images.specs.Encoding.{first_from, IsSlots}
use Rattle.images.proofs.tables.map_words.Given as goal

abbrev pub invariant-loop-entry : goal.invariant-loop-entry
invariant-loop-entry l = (images.inserted 3 l.slots (replicate (3 * l.slots) 0) (images.map_entries l.entries) ≡ images.inserted 3 l.slots l.words.items (images.map_entries (drop l.entry-index l.entries))) × (length l.words.items ≡ 3 * l.slots)
