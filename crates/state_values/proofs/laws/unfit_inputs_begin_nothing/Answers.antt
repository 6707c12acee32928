use Rattle.state_values.proofs.Starting.{unfit_begins_not}
use Rattle.state_values.proofs.laws.unfit_inputs_begin_nothing.Goals as goal

pub returns : goal.returns
returns c = unfit_begins_not
