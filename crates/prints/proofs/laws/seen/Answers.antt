use Rattle.prints.proofs.SamplesSeen.{seen}
use Rattle.prints.proofs.laws.seen.Goals as goal

pub returns : goal.returns
returns c = seen
