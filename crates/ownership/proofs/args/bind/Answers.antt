use Rattle.std.proofs.Common.{arith}
use Rattle.ownership.proofs.StepsLemmas.{bind_done}
use Rattle.ownership.proofs.args.bind.Goals as goal

pub returns-clause-ok : goal.returns-clause-ok
returns-clause-ok c = bind_done c.args.context.now c.each.context c.args.to.now c.args.shapes.now c.each.index (omega arith) c.each.invariant.binding c.each.invariant.saved
