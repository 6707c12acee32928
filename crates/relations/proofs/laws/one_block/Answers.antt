use Rattle.relations.proofs.Layouts.{one_block}
use Rattle.relations.proofs.laws.one_block.Goals as goal

pub returns : goal.returns
returns c = one_block
