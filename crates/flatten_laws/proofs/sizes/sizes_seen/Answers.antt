use Rattle.flatten_laws.proofs.SizeSamples.{seen}
use Rattle.flatten_laws.proofs.sizes.sizes_seen.Goals as goal

pub returns : goal.returns
returns c = seen
