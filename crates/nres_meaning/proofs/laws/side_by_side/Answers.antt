use Rattle.nres_meaning.proofs.Follows.{both_gives, both_fails_left, both_fails_right, both_fails}
use Rattle.nres_meaning.proofs.laws.side_by_side.Goals as goal

pub returns : goal.returns
returns c = record {
  gives = λ r s k x y z g h e. both_gives r s k x y z g h e;
  left_fails = λ r s k h. both_fails_left r s k h;
  right_fails = λ r s k h. both_fails_right r s k h;
  later_fails = λ r s k x y g h e. both_fails r s k x y g h e;
}
