use Rattle.std.proofs.Common.{sym, ◌∙◌, subst}
use Rattle.sequences.specs.Keys.{IsRising}
use Rattle.containers.proofs.SetItems.{items_rise}
use Rattle.relations.specs.Images as images
use Rattle.images.proofs.Steps.{over_set}
use Rattle.images.proofs.encoding.bits.Goals as goal

pub bits_of-requires : goal.bits_of-requires
bits_of-requires c = subst IsRising (sym (c.as_slice.ensures.value ∙ c.in_ok-numbers.ensures)) (items_rise c.args.set.now)

pub returns-clause-no_fit : goal.returns-clause-no_fit
returns-clause-no_fit c = over_set c.args.bound c.args.set.now c.as_slice.result.now c.bits_of.result (c.as_slice.ensures.value ∙ c.in_ok-numbers.ensures) c.bits_of.ensures.no_fit
