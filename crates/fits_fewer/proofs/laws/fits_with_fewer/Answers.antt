use Rattle.fits_fewer.proofs.Fewer.{sound, bounded}
use Rattle.fits_fewer.proofs.laws.fits_with_fewer.Goals as goal

pub returns : goal.returns
returns g c = record {
  sound = λ x. sound (g.P.FitsWithFewer.fitted x);
  bounded = λ x. bounded (g.P.FitsWithFewer.fitted x);
}
