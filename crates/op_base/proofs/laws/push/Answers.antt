use Rattle.op_base.proofs.PushLemmas.{push_law}
use Rattle.op_base.proofs.laws.push.Goals as goal

pub returns : goal.returns
returns c = push_law
