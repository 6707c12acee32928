use Rattle.store_parts.proofs.Steps.{give_by}
use Rattle.store_parts.proofs.first.first_refused.Goals as goal

pub returns-in-None : goal.returns-in-None
returns-in-None g c = give_by (g.H.Holding.piece c.args.holding.now) c.args.left.now c.args.right.now c.as_slice.result.now c.refused_of-in-None.result c.as_slice.ensures.value c.in-None.ensures c.refused_of-in-None.ensures
