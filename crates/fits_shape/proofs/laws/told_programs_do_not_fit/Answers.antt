use Rattle.fits_shape.proofs.Shapes.{unfit_do_not_fit}
use Rattle.fits_shape.proofs.laws.told_programs_do_not_fit.Goals as goal

pub returns : goal.returns
returns c = unfit_do_not_fit
