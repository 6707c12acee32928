use Rattle.std.proofs.Common.{◌≡◌, map, take}
use Rattle.std.specs.Option.{option_copied}
use Rattle.target_meaning.specs.Turns.{part_of}
use Rattle.store_parts.specs.Tests.{Passed, piece_after}
use Rattle.store_parts.proofs.first.refused_in.Given as goal

abbrev pub invariant-loop-index : goal.invariant-loop-index
invariant-loop-index g l = Passed (map part_of l.earlier) l.all l.lent (take l.index l.list) (piece_after (option_copied l.fn.left) (g.H.Holding.piece l.holding))
