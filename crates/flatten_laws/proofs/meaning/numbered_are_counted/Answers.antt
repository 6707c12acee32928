use Rattle.flatten_laws.proofs.CountedBlocks.{numbered_are_counted}
use Rattle.flatten_laws.proofs.meaning.numbered_are_counted.Goals as goal

pub returns : goal.returns
returns c = numbered_are_counted
