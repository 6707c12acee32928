use Rattle.std.proofs.Common.{◌≡◌, map, drop}
use Rattle.target_meaning.specs.Piece.{share_of}
use Rattle.target_meaning.specs.Turns.{part_of}
use Rattle.store_parts.specs.Tests.{left_by}
use Rattle.store_parts.proofs.places.after.Given as goal

abbrev pub invariant-loop-part : goal.invariant-loop-part
invariant-loop-part l =
    left_by (map (λ p. record { part = p; all = l.all }) (map part_of (drop l.part-index l.parts))) l.block l.place (share_of l.held.value l.held.amount)
    ≡ left_by (map (λ p. record { part = p; all = l.all }) (map part_of l.parts)) l.block l.place (share_of l.fn.held.value l.fn.held.amount)
