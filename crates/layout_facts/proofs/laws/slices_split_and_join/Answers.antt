use Rattle.layout_facts.proofs.Slices.{front_slice_is, back_slice_is, joined_slice_is}
use Rattle.layout_facts.proofs.laws.slices_split_and_join.Goals as goal

pub returns : goal.returns
returns c = record {
  split = λ b off len k xs p h r hs le. (front_slice_is b off len xs p r k le, back_slice_is b off len xs p r k le h hs);
  join = joined_slice_is;
}
