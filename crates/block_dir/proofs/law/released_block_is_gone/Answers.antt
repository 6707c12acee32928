use Rattle.block_dir.proofs.Laws.{share_released, cell_released-else}
use Rattle.block_dir.proofs.law.released_block_is_gone.Goals as goal

pub returns-clause-block : goal.returns-clause-block
returns-clause-block c = share_released

pub returns-clause-others : goal.returns-clause-others
returns-clause-others c = cell_released-else
