use Rattle.std.proofs.Common.{◌≡◌, map, drop}
use Rattle.target_meaning.specs.Held.{IsApart}
use Rattle.target_meaning.specs.Turns.{part_of}
use Rattle.store_parts.proofs.places.is_apart.Given as goal

abbrev pub invariant-loop-other : goal.invariant-loop-other
invariant-loop-other l =
    (IsApart (part_of l.part) (map part_of (drop l.other-index l.list)) → IsApart (part_of l.part) (map part_of l.list))
    × (IsApart (part_of l.part) (map part_of l.list) → IsApart (part_of l.part) (map part_of (drop l.other-index l.list)))
