use Rattle.std.proofs.Common.{◌+◌, sym, arith, subst}
use Rattle.target_meaning.specs.declared.stack.Stack.TheVariants as stack
use Rattle.branch_exec.specs.Went.{Ran}
use Rattle.branch_exec.proofs.straight.run_straight.Goals as goal

pub returns-in-Run-clause-ran : goal.returns-in-Run-clause-ran
returns-in-Run-clause-ran g c d =
    let k = g.S.Store.kept in
    let l = c.args.leaf.now in
    let fs = c.in-Run.frames in
    let lt = c.requires.unspent in
    subst (λ v. Ran c.args.procs.now l.budget d v (k c.args.store.now) l.done (stack.Run record { top = c.run_frame.new.frame; below = fs.below }) (k c.run_frame.new.store) (l.done + c.run_frame.result)) (sym c.in-Run.is)
    (c.run_frame.ensures.ran l.budget d l.done fs (omega arith))
