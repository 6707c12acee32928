use Rattle.fits_sound.proofs.Fitted.{is_safe, is_bounded}
use Rattle.fits_sound.proofs.laws.what_fits_is_sound.Goals as goal

pub returns : goal.returns
returns g c = record {
  safe = λ x. is_safe (g.C.Fits.fitted x);
  bounded = λ x. is_bounded (g.C.Fits.fitted x);
}
