use Rattle.fits_shape.proofs.Follows.{what_has_trees}
use Rattle.fits_shape.proofs.laws.what_fits_has_its_trees.Goals as goal

pub returns : goal.returns
returns c = what_has_trees
