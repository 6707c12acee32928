use Rattle.run_begins.proofs.Unfit.{unplaced}
use Rattle.run_begins.proofs.laws.unplaced_inputs_are_unfit.Goals as goal

pub returns : goal.returns
returns c = unplaced
