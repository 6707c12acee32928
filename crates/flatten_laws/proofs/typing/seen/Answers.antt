use Rattle.flatten_laws.proofs.TypingSamples.{seen}
use Rattle.flatten_laws.proofs.typing.seen.Goals as goal

pub returns : goal.returns
returns c = seen
