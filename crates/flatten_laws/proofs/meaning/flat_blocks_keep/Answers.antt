use Rattle.flatten_laws.proofs.MeantBlocks.{flat_blocks_keep}
use Rattle.flatten_laws.proofs.meaning.flat_blocks_keep.Goals as goal

pub returns : goal.returns
returns c = flat_blocks_keep
