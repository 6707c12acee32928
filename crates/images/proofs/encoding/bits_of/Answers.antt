use Rattle.std.proofs.Common.{sym, ap, ◌∙◌, length, [], ◌∷◌, ◌+◌, ◌/◌}
use Rattle.std.specs.Prelude.{Some}
use Rattle.relations.specs.Images as images
use Rattle.images.proofs.Steps.{first_is, bounded_is}
use Rattle.images.proofs.encoding.bits_of.Goals as goal

pub returns-in-Some-clause-no_fit : goal.returns-in-Some-clause-no_fit
returns-in-Some-clause-no_fit c = first_is c.args.bound c.args.numbers.now c.requires c.in-Some.number (sym c.first_from.ensures ∙ c.in-Some.is)

pub returns-in_ok-bits-in-None-clause-image : goal.returns-in_ok-bits-in-None-clause-image
returns-in_ok-bits-in-None-clause-image c =
    let xs = c.args.numbers.now in
    bounded_is c.args.bound xs (images.of_block (length xs ∷ []) (images.bit_words xs 0 ((c.args.bound + 63) / 64))) (sym c.first_from.ensures ∙ c.in-None.is) ∙ ap Some (sym c.in_ok-bits-in-None.ensures)
