use Rattle.std.proofs.Common.{◌≡◌, ◌<◌, ◌≤◌, ◌*◌, ◌/◌, ◌^◌, ◌+◌, ◌-◌, ◌++◌, ℕ, length, drop, replicate}
use Rattle.relations.specs.Images as images
use Rattle.images.specs.Encoding.{first_from, IsSlots}
use Rattle.images.proofs.bounded.bit_words.Given as goal

abbrev pub invariant-loop-done : goal.invariant-loop-done
invariant-loop-done l = (l.count ≡ length l.numbers) × (l.words.items ≡ images.bit_words (drop (l.count - l.done) l.numbers) 0 ((l.bound + 63) / 64))
