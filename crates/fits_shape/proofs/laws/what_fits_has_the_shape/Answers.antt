use Rattle.fits_shape.proofs.Shapes.{have_shape}
use Rattle.fits_shape.proofs.laws.what_fits_has_the_shape.Goals as goal

pub returns : goal.returns
returns c = have_shape
