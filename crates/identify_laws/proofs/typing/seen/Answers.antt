use Rattle.identify_laws.proofs.TypingSamples.{seen}
use Rattle.identify_laws.proofs.typing.seen.Goals as goal

pub returns : goal.returns
returns c = seen
