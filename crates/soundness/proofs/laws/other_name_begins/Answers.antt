use Rattle.soundness.proofs.Starts.{other_name_begins}
use Rattle.soundness.proofs.laws.other_name_begins.Goals as goal

pub returns : goal.returns
returns c = other_name_begins
