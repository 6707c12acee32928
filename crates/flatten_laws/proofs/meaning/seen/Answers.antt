use Rattle.flatten_laws.proofs.MeaningSamples.{seen}
use Rattle.flatten_laws.proofs.meaning.seen.Goals as goal

pub returns : goal.returns
returns c = seen
