use Rattle.nres_flat.specs.Adding.{named}
use Rattle.nres_flat.proofs.Adding.{calculates}
use Rattle.nres_flat.proofs.expr.calculate.Goals as goal

pub returns : goal.returns
returns c = calculates c.args.binds.now c.push.new.self c.args.place c.args.word c.args.operands.0 c.args.operands.1 (named c.args.name) c.in_ok-out.ensures.number c.in_ok-push.ensures.ok c.in_ok-out.ensures.names
