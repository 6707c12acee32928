use Rattle.std.proofs.Common.{map}
use Rattle.std.specs.Option.{option_copied}
use Rattle.target_meaning.specs.Turns.{part_of}
use Rattle.store_parts.specs.Tests.{piece_after}
use Rattle.store_parts.proofs.Steps.{not_first, not_second, takable_tells}
use Rattle.store_parts.proofs.first.is_takable.Goals as goal

pub returns-then-not-is_apart : goal.returns-then-not-is_apart
returns-then-not-is_apart g c = not_first (map part_of c.args.earlier.now) (map part_of c.args.before.now) (record { part = part_of c.args.part.now; all = c.args.all }) (piece_after (option_copied c.args.left) (g.H.Holding.piece c.args.holding.now)) c.if-not-is_apart.ensures

pub returns-then-not-is_apart-2 : goal.returns-then-not-is_apart-2
returns-then-not-is_apart-2 g c = not_second (map part_of c.args.earlier.now) (map part_of c.args.before.now) (record { part = part_of c.args.part.now; all = c.args.all }) (piece_after (option_copied c.args.left) (g.H.Holding.piece c.args.holding.now)) c.if-not-is_apart-2.ensures

pub returns : goal.returns
returns g c = takable_tells (map part_of c.args.earlier.now) (map part_of c.args.before.now) (record { part = part_of c.args.part.now; all = c.args.all }) (piece_after (option_copied c.args.left) (g.H.Holding.piece c.args.holding.now)) c.part_held.result c.if-not-is_apart.ensures c.if-not-is_apart-2.ensures c.part_held.ensures
