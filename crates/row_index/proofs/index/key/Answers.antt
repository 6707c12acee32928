use Rattle.std.proofs.Common.{rules}
use Rattle.row_index.specs.Index.{key}
use Rattle.row_index.proofs.index.key.Goals as goal

pub returns : goal.returns
unfolding key
returns c = search rules
