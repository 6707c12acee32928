use Rattle.std.proofs.lemmas.Option.{slice_get-get_or}
use Rattle.std.specs.Prelude.{slice_index_or, None}
use Rattle.target_meaning.specs.Turns.{part_of}
use Rattle.target_meaning.specs.declared.frame.Part.{Part}
use Rattle.store_parts.proofs.Steps.{apart_next}
use Rattle.store_parts.proofs.places.is_apart.Goals as goal

pub loop-other-preserved : goal.loop-other-preserved
loop-other-preserved c =
    let list = c.args.list.now in
    let zero_part : Part = record { block = 0; span = None } in
    apart_next (part_of c.args.part.now) list c.loop-other.other-index (slice_index_or list c.loop-other.other-index zero_part) (slice_get-get_or list c.loop-other.other-index zero_part c.loop-other-test.true) c.if-not-are_apart.ensures c.loop-other.invariant
