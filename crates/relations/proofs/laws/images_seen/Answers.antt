use Rattle.std.proofs.Common.{ℕ, List, refl, ap}
use Rattle.std.specs.Prelude.{Some}
use Rattle.containers.specs.Bag as bags
use Rattle.relations.specs.Images.{bits_image, hset_image, amap_image, hmap_image}
use Rattle.relations.proofs.laws.images_seen.Goals as goal

pub returns : goal.returns
unfolding bags.bag_of
returns c = record {
  word = refl;
  flag = refl;
  array = refl;
  no_vec = refl;
  vec = refl;
  heap = refl;
  bits = λ s e. ap (bits_image 70) e;
  amap = λ m e. ap (amap_image 2) e;
  past = λ s e. ap (λ (xs : List ℕ). Some (hset_image xs)) e;
  round = λ s e. ap (λ (xs : List ℕ). Some (hset_image xs)) e;
  hmap = λ m e. ap (λ (es : List (ℕ × ℕ)). Some (hmap_image es)) e;
  fits = refl;
  doubled = refl;
  no_bit = λ s e. ap (bits_image 3) e;
  no_key = λ m e. ap (amap_image 2) e;
  no_slice = λ xs. refl;
  no_word = refl;
}
