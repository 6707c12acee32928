use Rattle.std.proofs.Common.{refl}
use Rattle.nres_flat.proofs.Loops.{set_ended}
use Rattle.nres_flat.proofs.each.end_each.Goals as goal

pub returns-in_ok-push-in-Ok-clause-binds : goal.returns-in_ok-push-in-Ok-clause-binds
returns-in_ok-push-in-Ok-clause-binds c =
    set_ended c.args.place c.args.turn.1 c.args.pattern.now c.args.head c.args.binds.now c.push.new.self c.args.turn.0 _ c.args.turn.2 _ _ _ _ _ c.args.names.now
    c.in_ok-body.ensures.block c.in_ok-body.ensures.names refl refl refl c.in-Ok.ensures.numbers
    c.in-Ok.ensures.cond c.in-Ok.ensures.vars c.in-Ok.ensures.starts c.in_ok-push-in-Ok.ensures.ok
