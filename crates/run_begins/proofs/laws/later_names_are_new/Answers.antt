use Rattle.run_begins.proofs.Starting.{later_new}
use Rattle.run_begins.proofs.laws.later_names_are_new.Goals as goal

pub returns : goal.returns
returns c = later_new
