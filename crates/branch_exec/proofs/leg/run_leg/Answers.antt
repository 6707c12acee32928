use Rattle.branch_exec.proofs.Legged.{none_goes, some_goes}
use Rattle.branch_exec.proofs.leg.run_leg.Goals as goal

pub returns-in-None-clause-goes : goal.returns-in-None-clause-goes
returns-in-None-clause-goes g c d =
    let k = g.S.Store.kept in
    none_goes c.args.procs.now d c.make_steps.result c.args.leaf.now c.make_steps.new.leaf (k c.args.store.now) (k c.make_steps.new.store) c.spent.result c.in-None.is (c.make_steps.ensures.leg d) c.make_steps.ensures.path c.spent.ensures

pub returns-in-Some-clause-goes : goal.returns-in-Some-clause-goes
returns-in-Some-clause-goes g c d =
    let k = g.S.Store.kept in
    some_goes c.args.procs.now d c.make_steps.result c.in-Some.turn c.args.leaf.now c.make_steps.new.leaf c.turned.new.leaf (k c.args.store.now) (k c.make_steps.new.store) c.turned.result c.in-Some.is (c.make_steps.ensures.leg d) c.make_steps.ensures.path c.turned.ensures
