-- Words that are read and that are not, and values of a type and of another, seen.
use Rattle.std.proofs.Common.{refl}
use Rattle.nres_rules.specs.Types.{take_op}
use Rattle.nres_core.specs.Vocabulary.{is_take_word}
use Rattle.nres_meaning.specs.WordOperations.{op_named}
use Rattle.identify_laws.specs.MeaningSamples.{Seen}

pub seen : Seen
unfolding is_take_word op_named take_op
seen = record {
  pop_is_read = refl;
  len_is_not = λ h. (cc);
  len_is_typed = refl;
  len_is_taken_for = refl;
  len_is = λ x. refl;
  a_number = λ n. tt;
  no_number = λ h. h;
  no_truth = λ n h. h;
  all_of = λ xs. (tt, (tt, tt));
  one_too_few = λ h. h.1;
  one_too_many = λ h. h;
}
