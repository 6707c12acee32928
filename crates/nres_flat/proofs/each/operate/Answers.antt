use Rattle.nres_flat.proofs.Loops.{operated_on}
use Rattle.nres_flat.proofs.each.operate.Goals as goal

pub returns-clause-adds : goal.returns-clause-adds
returns-clause-adds c =
    operated_on c.args.place c.args.op c.args.arg c.args.binds.now c.push.new.self _ _ c.in_ok-out.ensures.number c.in_ok-from_slice.ensures c.in_ok-from_slice-2.ensures
    c.in_ok-out.ensures.names c.in_ok-push.ensures.ok
