use Rattle.fits_sound.proofs.Mains.{is_sound, is_bounded}
use Rattle.fits_sound.proofs.laws.fitting_programs_are_sound.Goals as goal

pub returns : goal.returns
returns g c = record {
  sound = λ x. is_sound (g.P.FitsText.fitted x);
  bounded = λ x. is_bounded (g.P.FitsText.fitted x);
}
