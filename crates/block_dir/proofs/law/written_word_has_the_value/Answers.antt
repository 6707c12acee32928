use Rattle.block_dir.proofs.Laws.{cell_written-same, cell_written-else}
use Rattle.block_dir.proofs.law.written_word_has_the_value.Goals as goal

pub returns-clause-word : goal.returns-clause-word
returns-clause-word c = cell_written-same

pub returns-clause-others : goal.returns-clause-others
returns-clause-others c p x k v ne = cell_written-else p x v k ne
