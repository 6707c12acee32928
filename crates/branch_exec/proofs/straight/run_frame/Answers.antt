use Rattle.std.proofs.Common.{◌+◌}
use Rattle.branch_exec.proofs.Inside.{and_then}
use Rattle.branch_exec.proofs.straight.run_frame.Goals as goal

pub lists-preserved : goal.lists-preserved
lists-preserved g c =
    let k = g.S.Store.kept in
    let T = c.args.procs.now in
    let here = and_then T c.args.frame.now c.lists.frame c.run_list-steps.new.frame (k c.args.store.now) (k c.lists.store) (k c.run_list-steps.new.store) c.args.most c.lists.made c.run_list-steps.result.made c.lists.invariant c.run_list-steps.ensures.ran in
    and_then T c.args.frame.now c.run_list-steps.new.frame c.run_on-more.new.frame (k c.args.store.now) (k c.run_list-steps.new.store) (k c.run_on-more.new.store) c.args.most (c.lists.made + c.run_list-steps.result.made) c.run_on-more.result.made here c.run_on-more.ensures.ran

pub returns-then-not-steps : goal.returns-then-not-steps
returns-then-not-steps g c =
    let k = g.S.Store.kept in
    and_then c.args.procs.now c.args.frame.now c.lists.frame c.run_list-steps.new.frame (k c.args.store.now) (k c.lists.store) (k c.run_list-steps.new.store) c.args.most c.lists.made c.run_list-steps.result.made c.lists.invariant c.run_list-steps.ensures.ran

pub returns-then-not-more : goal.returns-then-not-more
returns-then-not-more g c =
    let k = g.S.Store.kept in
    let T = c.args.procs.now in
    let here = and_then T c.args.frame.now c.lists.frame c.run_list-steps.new.frame (k c.args.store.now) (k c.lists.store) (k c.run_list-steps.new.store) c.args.most c.lists.made c.run_list-steps.result.made c.lists.invariant c.run_list-steps.ensures.ran in
    and_then T c.args.frame.now c.run_list-steps.new.frame c.run_on-more.new.frame (k c.args.store.now) (k c.run_list-steps.new.store) (k c.run_on-more.new.store) c.args.most (c.lists.made + c.run_list-steps.result.made) c.run_on-more.result.made here c.run_on-more.ensures.ran
