-- Small trees that are served and that are not, seen.
use Rattle.std.proofs.Common.{refl, arith}
use Rattle.flatten_laws.specs.MeaningSamples.{Seen}

pub seen : Seen
seen = record {
  served = (refl, refl, refl, tt);
  start_too_many = λ h. (let e = h.0 in omega (arith, e));
  result_too_many = λ h. (let e = h.1 in omega (arith, e));
  name_too_few = λ h. (let e = h.2 in omega (arith, e));
  numbered = λ k. (tt, tt);
  numbers_lost = λ h. h.1.0.0;
}
