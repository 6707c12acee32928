use Rattle.bare_holds.proofs.StepsBare.{applies_same}
use Rattle.bare_holds.proofs.laws.applies_same.Goals as goal

pub returns : goal.returns
returns c = applies_same
