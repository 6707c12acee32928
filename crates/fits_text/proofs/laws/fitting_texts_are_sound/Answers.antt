use Rattle.fits_text.proofs.Texts.{sound, bounded}
use Rattle.fits_text.proofs.laws.fitting_texts_are_sound.Goals as goal

pub returns : goal.returns
returns g c = record {
  sound = λ x. sound (g.P.Fits.fitted x);
  bounded = λ x. bounded (g.P.Fits.fitted x);
}
