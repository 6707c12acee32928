use Rattle.std.proofs.Common.{sym, ap, ◌∙◌, length, replicate, [], ◌∷◌, ◌*◌}
use Rattle.std.specs.Prelude.{Some}
use Rattle.relations.specs.Images as images
use Rattle.images.proofs.Steps.{first_is, bounded_is}
use Rattle.images.proofs.encoding.marks_of.Goals as goal

pub returns-in-Some-clause-no_fit : goal.returns-in-Some-clause-no_fit
returns-in-Some-clause-no_fit c = first_is c.args.bound (images.keys_of c.args.entries.now) c.requires c.in-Some.key (sym c.first_key_from.ensures ∙ c.in-Some.is)

pub returns-in_ok-marks-in-None-clause-image : goal.returns-in_ok-marks-in-None-clause-image
returns-in_ok-marks-in-None-clause-image c =
    let es = c.args.entries.now in
    bounded_is c.args.bound (images.keys_of es) (images.of_block (length es ∷ []) (images.marked (replicate (2 * c.args.bound) 0) es)) (sym c.first_key_from.ensures ∙ c.in-None.is) ∙ ap Some (sym c.in_ok-marks-in-None.ensures)
