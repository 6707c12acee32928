use Rattle.bare_holds.proofs.StepsBare.{pars_same}
use Rattle.bare_holds.proofs.laws.pars_same.Goals as goal

pub returns : goal.returns
returns c = pars_same
