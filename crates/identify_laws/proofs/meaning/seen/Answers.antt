use Rattle.identify_laws.proofs.MeaningSamples.{seen}
use Rattle.identify_laws.proofs.meaning.seen.Goals as goal

pub returns : goal.returns
returns c = seen
