use Rattle.bare_holds.proofs.StepsBare.{starts_same}
use Rattle.bare_holds.proofs.laws.starts_same.Goals as goal

pub returns : goal.returns
returns c = starts_same
