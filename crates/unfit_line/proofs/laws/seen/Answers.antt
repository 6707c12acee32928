use Rattle.unfit_line.proofs.SamplesSeen.{seen}
use Rattle.unfit_line.proofs.laws.seen.Goals as goal

pub returns : goal.returns
returns c = seen
