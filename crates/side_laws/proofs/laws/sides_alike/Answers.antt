use Rattle.side_laws.proofs.Alike.{sides_alike}
use Rattle.side_laws.proofs.laws.sides_alike.Goals as goal

pub returns : goal.returns
returns c = sides_alike
