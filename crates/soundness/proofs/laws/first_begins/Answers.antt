use Rattle.soundness.proofs.Starts.{first_begins}
use Rattle.soundness.proofs.laws.first_begins.Goals as goal

pub returns : goal.returns
returns c = first_begins
