use Rattle.side_laws.proofs.Left.{lent_the_same}
use Rattle.side_laws.proofs.laws.lent_the_same.Goals as goal

pub returns : goal.returns
returns c = lent_the_same
