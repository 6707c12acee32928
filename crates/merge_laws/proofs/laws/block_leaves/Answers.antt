use Rattle.merge_laws.proofs.SidesLemmas.{leaves}
use Rattle.merge_laws.proofs.laws.block_leaves.Goals as goal

pub returns : goal.returns
returns c = leaves
