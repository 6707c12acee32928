use Rattle.std.proofs.Common.{refl}
use Rattle.rule_check.specs.Sides.{sides_on, sides_of}
use Rattle.rule_check.specs.OperationWords.{word_of}
use Rattle.rule_check.specs.Steps.{on_ok, unless, when, either_of}
use Rattle.rule_check.specs.Samples.{Seen}

pub seen : Seen
unfolding on_ok unless when either_of sides_on sides_of word_of
seen = record {
  lost_is = refl;
  insert_unknown_is = refl;
  insert_too_weak_is = refl;
  swaps_is = refl;
  union_twice_is = refl;
  set_kept_is = refl;
  result_vec_is = refl;
  union_hset_is = refl;
  mixed_is = refl;
  push_array_is = refl;
  put_unknown_is = refl;
  insert_literal_is = refl;
  either_refused_is = refl;
  late_is = refl;
  clash_is = refl;
  copied_is = refl;
  reads_is = refl;
  halves_is = refl;
  recursive_is = refl;
  looped_is = refl;
  either_left_is = refl;
  either_right_is = refl;
  left_taken = refl;
  right_taken = refl;
}
