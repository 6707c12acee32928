use Rattle.std.proofs.Common.{◌+◌, ap, arith}
use Rattle.block_dir.specs.declared.view.Cell.{Cell}
use Rattle.block_dir.proofs.Laws.{whole_won, owns_won, cell_won-word, cell_won-else}
use Rattle.block_dir.proofs.law.won_block_is_whole.Goals as goal

pub returns-clause-block : goal.returns-clause-block
returns-clause-block c = whole_won

pub returns-clause-words : goal.returns-clause-words
returns-clause-words c q n i v h = (owns_won q n v i h, ap (λ (d : Cell). d.value) (cell_won-word q n v (q + 1 + i) (omega arith) (omega arith)))

pub returns-clause-others : goal.returns-clause-others
returns-clause-others c = cell_won-else
