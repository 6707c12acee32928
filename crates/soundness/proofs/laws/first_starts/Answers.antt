use Rattle.soundness.proofs.Starts.{first_starts}
use Rattle.soundness.proofs.laws.first_starts.Goals as goal

pub returns : goal.returns
returns c = first_starts
