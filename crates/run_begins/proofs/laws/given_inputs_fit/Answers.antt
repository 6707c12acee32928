use Rattle.run_begins.proofs.Fitting.{given_fit}
use Rattle.run_begins.proofs.laws.given_inputs_fit.Goals as goal

pub returns : goal.returns
returns c = given_fit
