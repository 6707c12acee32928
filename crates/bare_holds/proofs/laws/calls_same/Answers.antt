use Rattle.bare_holds.proofs.StepsBare.{calls_same}
use Rattle.bare_holds.proofs.laws.calls_same.Goals as goal

pub returns : goal.returns
returns c = calls_same
