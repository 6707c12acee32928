use Rattle.std.proofs.Common.{refl}
use Rattle.nres_rules.specs.Types.{sig_of, made_fits}
use Rattle.nres_rules.proofs.laws.types_seen.Goals as goal

pub returns : goal.returns
unfolding sig_of made_fits
returns c = record {
  first_types = refl;
  first_words = refl;
  first_passes = refl;
  not_sum = refl;
  size_of_truth = refl;
  inner_first = refl;
  empty_list = refl;
  pattern_first = refl;
  condition_first = refl;
  call_unbound = refl;
  second_name = refl;
}
