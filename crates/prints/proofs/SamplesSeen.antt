-- The samples, computed.
use denote.Hole.Carrier
use Rattle.std.proofs.Common.{refl}
use Rattle.std.specs.Fmt.{digits}
use Rattle.target_code.specs.declared.tree.Instr.{out-Instr}
use Rattle.rule_check.specs.OperationWords.{word_of}
use Rattle.rule_check.specs.Steps.{on_ok, on_some, unless, when, either_of}
use Rattle.prints.specs.Print.{put_before}
use Rattle.prints.specs.Samples.{Seen}

pub seen : Seen
unfolding out-Instr Carrier.out on_ok on_some unless when either_of put_before digits word_of
seen = record {
  one_is = refl;
  first_is = refl;
  lost_is_refused = refl;
  chosen_is = refl;
  sides_are = refl;
  counting_is = refl;
  turning_is = refl;
  left_is = refl;
  right_is = refl;
  two_is = refl;
  nested_is = refl;
  halves_are = refl;
  calling_is = refl;
  inserted_is = refl;
}
