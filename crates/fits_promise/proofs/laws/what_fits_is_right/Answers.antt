use Rattle.fits_promise.proofs.Promise.{formed, shape, made, sound, bounded}
use Rattle.fits_promise.proofs.laws.what_fits_is_right.Goals as goal

pub returns : goal.returns
returns g c = record {
  formed = λ x. formed (g.P.Typed.fitted x);
  shape = λ x. shape (g.P.Typed.fitted x);
  made = λ x. made (g.P.Typed.fitted x);
  sound = λ x. sound (g.P.Typed.fitted x);
  bounded = λ x. bounded (g.P.Typed.fitted x);
}
