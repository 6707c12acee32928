use Rattle.std.proofs.Common.{refl}
use Rattle.nres_flat.proofs.Bodies.{any_of}
use Rattle.nres_flat.proofs.plain.any.Goals as goal

pub returns : goal.returns
returns c number =
    any_of number c.args.place c.args.low.now c.args.high.now c.args.pattern.now c.args.scope.now c.expr-2.new.binds c.push.new.self refl c.in_ok-low.ensures c.in_ok-high.ensures
    c.first.ensures c.in_ok-out.ensures.number c.in_ok-out.ensures.names c.in_ok-push.ensures.ok c.in_ok-results.ensures
