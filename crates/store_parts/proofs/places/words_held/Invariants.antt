use Rattle.std.proofs.Common.{◌≡◌, ◌≤◌, ◌-◌}
use Rattle.std.specs.Option.{option_copied}
use Rattle.store_parts.specs.Tests.{AllWords, piece_after}
use Rattle.store_parts.proofs.places.words_held.Given as goal

abbrev pub invariant-words : goal.invariant-words
invariant-words g l = AllWords l.all (piece_after (option_copied l.fn.left) (g.H.Holding.piece l.holding)) l.block l.offset l.made × (l.made ≤ l.count)

abbrev pub decreases-words : goal.decreases-words
decreases-words g l = l.count - l.made
