use Rattle.bare_holds.proofs.StepsBare.{ends_same}
use Rattle.bare_holds.proofs.laws.ends_same.Goals as goal

pub returns : goal.returns
returns c = ends_same
