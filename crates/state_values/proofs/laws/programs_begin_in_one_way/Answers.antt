use Rattle.state_values.proofs.Starting.{one_beginning}
use Rattle.state_values.proofs.laws.programs_begin_in_one_way.Goals as goal

pub returns : goal.returns
returns c = one_beginning
