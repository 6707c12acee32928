use Rattle.identify_laws.proofs.Wholes.{identified_blocks_keep}
use Rattle.identify_laws.proofs.meaning.identified_blocks_keep.Goals as goal

pub returns : goal.returns
returns c = identified_blocks_keep
