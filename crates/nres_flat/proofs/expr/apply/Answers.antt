use Rattle.nres_flat.specs.Adding.{named}
use Rattle.nres_flat.proofs.Adding.{applied}
use Rattle.nres_flat.proofs.expr.apply.Goals as goal

pub returns : goal.returns
returns c p x l h =
    applied c.args.place c.args.op c.args.made (named c.args.name) p c.args.binds.now c.push.new.self c.args.args _ h c.in_ok-out.ensures.number c.in_ok-from_slice.ensures c.in_ok-push.ensures.ok
    c.in_ok-out.ensures.names
