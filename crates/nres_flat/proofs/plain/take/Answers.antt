use Rattle.std.proofs.Common.{refl}
use Rattle.nres_flat.proofs.Bodies.{taken_out}
use Rattle.nres_flat.proofs.plain.take.Goals as goal

pub returns : goal.returns
returns c number =
    taken_out number c.args.place c.args.word c.args.tree.now c.args.pattern.now c.args.scope.now c.expr.new.binds c.push.new.self _ _ refl c.in_ok-arg.ensures c.in_ok-args.ensures
    c.in_ok-outs.ensures.numbers c.in_ok-outs.ensures.args c.in_ok-outs.ensures.names c.in_ok-push.ensures.ok
