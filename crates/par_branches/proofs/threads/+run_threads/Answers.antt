use Rattle.std.proofs.Common.{◌+◌, ◌-◌, ◌/◌, refl, ap, ◌∙◌, arith, false}
use Rattle.target_meaning.specs.declared.path.Side.TheVariants.{Left, Right}
use Rattle.target_meaning.specs.Leaf.{joined}
use Rattle.target_meaning.specs.Turns.{wait_of}
use Rattle.branch_exec.specs.Forks.{room_of}
use Rattle.branch_exec.specs.declared.end.BranchEnd.TheVariants.{Memory}
use Rattle.branch_exec.proofs.Took.{none_yet}
use Rattle.branch_exec.proofs.Forks.{ended_is, ends_by, fork_asks, fork_goes, memory_stops}
use Rattle.par_branches.proofs.Threaded.{counts_fit, fork_ends_by, fork_kin, fork_ran, fork_told, fork_weight, may_run, same_kin}
use Rattle.par_branches.proofs.threads.+run_threads.Goals as goal

pub run_threads-legs-init : goal.run_threads-legs-init
run_threads-legs-init g t c =
    let k = g.S.Store.kept in
    let v = c.args.task.leaf in
    (none_yet c.args.procs.now v.budget (room_of v.path) v.stack (k c.args.task.store) v.done, c.requires.may.bounded.count_fits, c.requires.may.sized, refl, refl)

pub run_threads-returns-in-Ended : goal.run_threads-returns-in-Ended
run_threads-returns-in-Ended g t c =
    let k = g.S.Store.kept in
    let T = c.args.procs.now in
    let v = c.args.task.leaf in
    let i = c.legs.invariant in
    ended_is false T v.budget (room_of v.path) v.path v.stack c.legs.leaf.stack (k c.args.task.store) (k c.legs.store) (k c.run_leg.new.store) v.done c.legs.leaf.done c.in-Ended.end i.0 i.1
    (ends_by T v c.legs.leaf (k c.legs.store) c.in-Ended.end (k c.run_leg.new.store) (room_of v.path) i.3 i.4 (c.in-Ended.ensures.goes (room_of v.path)))

pub run_threads-hand-requires-clause-enough : goal.run_threads-hand-requires-clause-enough
run_threads-hand-requires-clause-enough g t c =
    let k = g.S.Store.kept in
    let i = c.legs.invariant in
    fork_weight c.args.procs.now c.args.task.leaf c.legs.leaf c.run_leg.new.leaf c.in-Forked.left c.in-Forked.right (k c.args.task.store) (k c.legs.store) (k c.run_leg.new.store) c.args.workers i.0 i.4
    (c.in-Forked.ensures.goes (room_of c.args.task.leaf.path)) c.requires.may.enough

pub run_threads-hand-requires-clause-can : goal.run_threads-hand-requires-clause-can
run_threads-hand-requires-clause-can g t c = (c.in-Forked.ensures.goes 0).can

pub run_threads-hand-requires-clause-first : goal.run_threads-hand-requires-clause-first
run_threads-hand-requires-clause-first g t c = (c.in-Forked.ensures.goes 0).first

pub run_threads-hand-requires-clause-second : goal.run_threads-hand-requires-clause-second
run_threads-hand-requires-clause-second g t c = (c.in-Forked.ensures.goes 0).second

pub run_threads-hand-requires-clause-unspent : goal.run_threads-hand-requires-clause-unspent
run_threads-hand-requires-clause-unspent g t c =
    let k = g.S.Store.kept in
    let i = c.legs.invariant in
    (fork_asks c.args.procs.now c.args.task.leaf c.legs.leaf c.run_leg.new.leaf c.in-Forked.left c.in-Forked.right (k c.legs.store) (k c.run_leg.new.store) i.3 i.4 c.in-Forked.ensures.keeps (c.in-Forked.ensures.goes 0) c.requires.may.bounded).2

pub run_threads-returns-in_default : goal.run_threads-returns-in_default
run_threads-returns-in_default g t c =
    let k = g.S.Store.kept in
    let T = c.args.procs.now in
    let v = c.args.task.leaf in
    let w = c.legs.leaf in
    let u = c.run_leg.new.leaf in
    let l = c.in-Forked.left in
    let r = c.in-Forked.right in
    let m = k c.run_leg.new.store in
    let i = c.legs.invariant in
    let n = c.in-Forked.ensures.keeps in
    let q = c.in-Forked.ensures.goes (room_of v.path) in
    let e = c.in_default.ensures.err in
    fork_ends_by false T v w u l r (k c.args.task.store) (k c.legs.store) m (k c.hand.new.store) Memory i.0 i.3 i.4 n q (same_kin m (k c.hand.new.store) e) tt
    (memory_stops false T u.budget (room_of u.path - 1) u.path l r m (k c.hand.new.store) (u.done + 1) e)

pub run_threads-run_both-one-requires-clause-first :
    goal.run_threads-run_both-one-requires-clause-first
run_threads-run_both-one-requires-clause-first g t c κs within =
    let k = g.S.Store.kept in
    let T = c.args.procs.now in
    let v = c.args.task.leaf in
    let w = c.legs.leaf in
    let u = c.run_leg.new.leaf in
    let l = c.in-Forked.left in
    let r = c.in-Forked.right in
    let m = k c.run_leg.new.store in
    let i = c.legs.invariant in
    let n = c.in-Forked.ensures.keeps in
    let q = c.in-Forked.ensures.goes (room_of v.path) in
    let a = fork_asks T v w u l r (k c.legs.store) m i.3 i.4 n (c.in-Forked.ensures.goes 0) c.requires.may.bounded in
    let h = c.in-Ok.ensures.ok in
    may_run T (c.args.workers - c.args.workers / 2) l Left u c.in-Ok.both.0.leaf (k c.in-Ok.both.0.store) h.children.left a.0 a.1 a.2 h.left

pub run_threads-run_both-one-requires-clause-second :
    goal.run_threads-run_both-one-requires-clause-second
run_threads-run_both-one-requires-clause-second g t c κs within =
    let k = g.S.Store.kept in
    let T = c.args.procs.now in
    let v = c.args.task.leaf in
    let w = c.legs.leaf in
    let u = c.run_leg.new.leaf in
    let l = c.in-Forked.left in
    let r = c.in-Forked.right in
    let m = k c.run_leg.new.store in
    let i = c.legs.invariant in
    let n = c.in-Forked.ensures.keeps in
    let q = c.in-Forked.ensures.goes (room_of v.path) in
    let a = fork_asks T v w u l r (k c.legs.store) m i.3 i.4 n (c.in-Forked.ensures.goes 0) c.requires.may.bounded in
    let h = c.in-Ok.ensures.ok in
    may_run T (c.args.workers / 2) r Right u c.in-Ok.both.1.leaf (k c.in-Ok.both.1.store) h.children.right a.0 a.1 a.2 h.right

pub run_threads-rejoin-requires : goal.run_threads-rejoin-requires
run_threads-rejoin-requires g t c =
    let k = g.S.Store.kept in
    let T = c.args.procs.now in
    let v = c.args.task.leaf in
    let w = c.legs.leaf in
    let u = c.run_leg.new.leaf in
    let l = c.in-Forked.left in
    let r = c.in-Forked.right in
    let m = k c.run_leg.new.store in
    let i = c.legs.invariant in
    let n = c.in-Forked.ensures.keeps in
    let q = c.in-Forked.ensures.goes (room_of v.path) in
    let b = c.in-Ok.both in
    let o = c.run_both-one.result in
    let h = c.in-Ok.ensures.ok in
    let x = c.run_both-one.ensures.left in
    let y = c.run_both-one.ensures.right in
    let a = fork_asks T v w u l r (k c.legs.store) m i.3 i.4 n (c.in-Forked.ensures.goes 0) c.requires.may.bounded in
    let d = c.in-Ok-back.ensures.done in
    let ran = fork_ran T u l r m (k c.hand.new.store) c.args.workers b.0.leaf (k b.0.store) b.1.leaf (k b.1.store) o.0.end o.1.end (k o.0.store) (k o.1.store) (k c.back.new.store) h x y c.back.ensures.back c.in-Ok-back.both q.can d.0 d.1 in
    counts_fit u c.in-Ok-back.both.steps a.0 ran.1

pub run_threads-legs-smaller : goal.run_threads-legs-smaller
run_threads-legs-smaller g t c =
    let k = g.S.Store.kept in
    let T = c.args.procs.now in
    let v = c.args.task.leaf in
    let w = c.legs.leaf in
    let u = c.run_leg.new.leaf in
    let l = c.in-Forked.left in
    let r = c.in-Forked.right in
    let m = k c.run_leg.new.store in
    let i = c.legs.invariant in
    let n = c.in-Forked.ensures.keeps in
    let q = c.in-Forked.ensures.goes (room_of v.path) in
    let b = c.in-Ok.both in
    let o = c.run_both-one.result in
    let h = c.in-Ok.ensures.ok in
    let x = c.run_both-one.ensures.left in
    let y = c.run_both-one.ensures.right in
    let d = c.in-Ok-back.ensures.done in
    let ran = fork_ran T u l r m (k c.hand.new.store) c.args.workers b.0.leaf (k b.0.store) b.1.leaf (k b.1.store) o.0.end o.1.end (k o.0.store) (k o.1.store) (k c.back.new.store) h x y c.back.ensures.back c.in-Ok-back.both q.can d.0 d.1 in
    let done = c.rejoin.ensures.done in
    let gr = ran.0.grows in
    let lt = q.leg.unspent in
    let more = q.leg.ran.grows in
    let same = c.rejoin.ensures.budget in
    let nb = n.1 in omega arith

pub run_threads-legs-preserved : goal.run_threads-legs-preserved
run_threads-legs-preserved g t c =
    let k = g.S.Store.kept in
    let T = c.args.procs.now in
    let v = c.args.task.leaf in
    let w = c.legs.leaf in
    let u = c.run_leg.new.leaf in
    let l = c.in-Forked.left in
    let r = c.in-Forked.right in
    let m = k c.run_leg.new.store in
    let i = c.legs.invariant in
    let n = c.in-Forked.ensures.keeps in
    let q = c.in-Forked.ensures.goes (room_of v.path) in
    let b = c.in-Ok.both in
    let o = c.run_both-one.result in
    let h = c.in-Ok.ensures.ok in
    let x = c.run_both-one.ensures.left in
    let y = c.run_both-one.ensures.right in
    let d = c.in-Ok-back.ensures.done in
    let z = c.in-Ok-back.both in
    let ran = fork_ran T u l r m (k c.hand.new.store) c.args.workers b.0.leaf (k b.0.store) b.1.leaf (k b.1.store) o.0.end o.1.end (k o.0.store) (k o.1.store) (k c.back.new.store) h x y c.back.ensures.back z q.can d.0 d.1 in
    fork_goes T v w u c.rejoin.new.leaf l r (k c.args.task.store) (k c.legs.store) m (k c.back.new.store) z.left z.right z.steps i.0 i.3 i.4 n q ran.0 ran.1
    (λ fs e. c.rejoin.ensures.joined fs e ∙ (ap (λ (z : _). joined (wait_of T fs) z c.as_slice-in-Ok-back.result.now) c.as_slice.ensures ∙ ap (λ (y : _). joined (wait_of T fs) z.left y) c.as_slice-in-Ok-back.ensures))
    (c.rejoin.ensures.sized n.2) c.rejoin.ensures.done c.rejoin.ensures.path c.rejoin.ensures.budget

pub run_threads-returns-in-Err : goal.run_threads-returns-in-Err
run_threads-returns-in-Err g t c =
    let k = g.S.Store.kept in
    let T = c.args.procs.now in
    let v = c.args.task.leaf in
    let w = c.legs.leaf in
    let u = c.run_leg.new.leaf in
    let l = c.in-Forked.left in
    let r = c.in-Forked.right in
    let m = k c.run_leg.new.store in
    let i = c.legs.invariant in
    let n = c.in-Forked.ensures.keeps in
    let q = c.in-Forked.ensures.goes (room_of v.path) in
    let b = c.in-Ok.both in
    let o = c.run_both-one.result in
    let h = c.in-Ok.ensures.ok in
    let x = c.run_both-one.ensures.left in
    let y = c.run_both-one.ensures.right in
    let told = c.in-Err.ensures.bad in
    fork_ends_by false T v w u l r (k c.args.task.store) (k c.legs.store) m (k c.back.new.store) c.in-Err.end i.0 i.3 i.4 n q
    (fork_kin T u l r m (k c.hand.new.store) c.args.workers b.0.leaf (k b.0.store) b.1.leaf (k b.1.store) o.0.end o.1.end (k o.0.store) (k o.1.store) (k c.back.new.store) h x y c.back.ensures.back)
    told.bad
    (fork_told T u l r m (k c.hand.new.store) c.args.workers b.0.leaf (k b.0.store) b.1.leaf (k b.1.store) o.0.end o.1.end (k o.0.store) (k o.1.store) (k c.back.new.store) h x y c.back.ensures.back c.in-Err.end told)
