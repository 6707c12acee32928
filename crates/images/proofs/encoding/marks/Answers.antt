use Rattle.std.proofs.Common.{sym, ◌∙◌, subst}
use Rattle.sequences.specs.Keys.{IsRising}
use Rattle.relations.specs.Images as images
use Rattle.image_laws.proofs.MapEntries.{entries_rise}
use Rattle.images.proofs.Steps.{over_map}
use Rattle.images.proofs.encoding.marks.Goals as goal

pub marks_of-requires : goal.marks_of-requires
marks_of-requires c = subst (λ es. IsRising (images.keys_of es)) (sym (c.as_slice.ensures.value ∙ c.in_ok-entries.ensures)) (entries_rise c.args.map.now)

pub returns-clause-no_fit : goal.returns-clause-no_fit
returns-clause-no_fit c = over_map c.args.bound c.args.map.now c.as_slice.result.now c.marks_of.result (c.as_slice.ensures.value ∙ c.in_ok-entries.ensures) c.marks_of.ensures.no_fit
