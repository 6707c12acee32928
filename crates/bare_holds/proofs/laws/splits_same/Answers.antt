use Rattle.bare_holds.proofs.StepsBare.{splits_same}
use Rattle.bare_holds.proofs.laws.splits_same.Goals as goal

pub returns : goal.returns
returns c = splits_same
