use Rattle.program_run.proofs.Means.{root_ran}
use Rattle.program_run.proofs.whole.run_root.Goals as goal

pub returns-in-Ok : goal.returns-in-Ok
returns-in-Ok g c = λ other.
    let k = g.S.Store.kept in
    root_ran c.args.procs.now c.args.regs.now c.args.steps (k c.args.store.now) (k c.run_branch.new.store) c.run_branch.result c.in-Ok.leaf c.in-Ok.ensures c.run_branch.ensures
