use Rattle.soundness.proofs.Starts.{gone_starts}
use Rattle.soundness.proofs.laws.gone_starts.Goals as goal

pub returns : goal.returns
returns c = gone_starts
