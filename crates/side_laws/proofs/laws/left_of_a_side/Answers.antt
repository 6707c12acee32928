use Rattle.side_laws.proofs.Left.{left_of_a_side}
use Rattle.side_laws.proofs.laws.left_of_a_side.Goals as goal

pub returns : goal.returns
returns c = left_of_a_side
