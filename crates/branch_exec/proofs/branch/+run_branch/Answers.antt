use Rattle.std.proofs.Common.{rules, ◌≡◌, ℕ, ◌+◌, ◌-◌, ◌<◌, ◌≤◌, ◌++◌, ◌∷◌, [], inl, inr, refl, sym, ap, ◌∙◌, subst, arith, length, true}
use Rattle.target_meaning.specs.declared.path.Side.TheVariants.{Left, Right}
use Rattle.target_meaning.specs.Leaf.{joined}
use Rattle.target_meaning.specs.Turns.{wait_of}
use Rattle.branch_exec.specs.Went.{BothRan}
use Rattle.branch_exec.specs.Ends.{IsBad}
use Rattle.branch_exec.specs.Forks.{BothDone, ForkStops, room_of}
use Rattle.branch_exec.specs.Leaves.{most_forks}
use Rattle.branch_exec.specs.declared.end.BranchEnd.TheVariants.{Done, Memory}
use Rattle.branch_exec.proofs.Took.{append_none, none_yet}
use Rattle.branch_exec.proofs.Forks.{both_here, child_end, ended_is, if_bad, if_ok, left_kin, left_stops, memory_stops, right_stops, ends_by, fork_asks, fork_goes, fork_ends}
use Rattle.branch_exec.proofs.branch.+run_branch.Goals as goal

pub fork_here-returns-in-Err-clause-bad : goal.fork_here-returns-in-Err-clause-bad
fork_here-returns-in-Err-clause-bad g t c =
    let k = g.S.Store.kept in
    (tt, memory_stops true c.args.procs.now c.args.leaf.now.budget (room_of c.args.leaf.now.path - 1) c.args.leaf.now.path c.args.left c.args.right (k c.args.store.now) (k c.enter.new.store) (c.args.leaf.now.done + 1) c.in-Err.ensures.err)

pub fork_here-returns-in-Done-clause-bad : goal.fork_here-returns-in-Done-clause-bad
fork_here-returns-in-Done-clause-bad g t c =
    let k = g.S.Store.kept in
    let T = c.args.procs.now in
    let v = c.args.leaf.now in
    let ch = c.in-Ok.ensures.ok in
    let one = Done c.in-Done.regs c.in-Done.steps in
    let l = child_end true T c.args.left Left v c.in-Ok.first (k c.enter.new.store) (k c.run_branch.new.store) one ch.0.left c.in-Done.ensures in
    let r = child_end true T c.args.right Right v c.in-Ok.second (k c.turn.new.self) (k c.run_branch-two.new.store) c.run_branch-two.result ch.0.right c.run_branch-two.ensures in
    if_bad (λ e. IsBad e × (e ≡ c.run_branch-two.result)) (λ e. IsBad e × ForkStops true T v.budget (room_of v.path - 1) v.path c.args.left c.args.right (k c.args.store.now) (k c.widen.new.self) (v.done + 1) e) c.right_too.result
    (λ e h. (
      h.0,
      subst (λ z. ForkStops true T v.budget (room_of v.path - 1) v.path c.args.left c.args.right (k c.args.store.now) (k c.widen.new.self) (v.done + 1) z) (sym h.1)
          (right_stops true T v.budget (room_of v.path - 1) v.path c.args.left c.args.right (k c.args.store.now) (k c.enter.new.store) (v.done + 1) ch.1 (k c.run_branch.new.store) (k c.turn.new.self) (k c.run_branch-two.new.store) (k c.widen.new.self) one c.run_branch-two.result l c.turn.ensures r c.widen.ensures c.in-Done.regs c.in-Done.steps refl (subst IsBad h.1 h.0)),
    ))
    c.right_too.ensures.bad

pub fork_here-returns-in-Done-clause-small : goal.fork_here-returns-in-Done-clause-small
fork_here-returns-in-Done-clause-small g t c =
    let k = g.S.Store.kept in
    let T = c.args.procs.now in
    let v = c.args.leaf.now in
    let ch = c.in-Ok.ensures.ok in
    let one = Done c.in-Done.regs c.in-Done.steps in
    let l = child_end true T c.args.left Left v c.in-Ok.first (k c.enter.new.store) (k c.run_branch.new.store) one ch.0.left c.in-Done.ensures in
    let r = child_end true T c.args.right Right v c.in-Ok.second (k c.turn.new.self) (k c.run_branch-two.new.store) c.run_branch-two.result ch.0.right c.run_branch-two.ensures in
    if_ok (BothDone one c.run_branch-two.result) (λ q. q.steps ≤ v.budget + (room_of v.path - 1)) c.right_too.result
    (λ q h. (both_here true T v.budget (room_of v.path - 1) v.path c.args.left c.args.right (k c.args.store.now) (k c.enter.new.store) (v.done + 1) ch.1 (k c.run_branch.new.store) (k c.turn.new.self) (k c.run_branch-two.new.store) (k c.widen.new.self) one c.run_branch-two.result l c.turn.ensures r c.widen.ensures q c.requires.can h).1)
    c.right_too.ensures.done

pub fork_here-returns-in-Done-clause-ran : goal.fork_here-returns-in-Done-clause-ran
fork_here-returns-in-Done-clause-ran g t c =
    let k = g.S.Store.kept in
    let T = c.args.procs.now in
    let v = c.args.leaf.now in
    let ch = c.in-Ok.ensures.ok in
    let one = Done c.in-Done.regs c.in-Done.steps in
    let l = child_end true T c.args.left Left v c.in-Ok.first (k c.enter.new.store) (k c.run_branch.new.store) one ch.0.left c.in-Done.ensures in
    let r = child_end true T c.args.right Right v c.in-Ok.second (k c.turn.new.self) (k c.run_branch-two.new.store) c.run_branch-two.result ch.0.right c.run_branch-two.ensures in
    if_ok (BothDone one c.run_branch-two.result) (λ q. BothRan T v.budget (room_of v.path - 1) c.args.left c.args.right (k c.args.store.now) (k c.widen.new.self) (v.done + 1) q.left q.right q.steps) c.right_too.result
    (λ q h. (both_here true T v.budget (room_of v.path - 1) v.path c.args.left c.args.right (k c.args.store.now) (k c.enter.new.store) (v.done + 1) ch.1 (k c.run_branch.new.store) (k c.turn.new.self) (k c.run_branch-two.new.store) (k c.widen.new.self) one c.run_branch-two.result l c.turn.ensures r c.widen.ensures q c.requires.can h).0)
    c.right_too.ensures.done

pub fork_here-returns-in_default : goal.fork_here-returns-in_default
fork_here-returns-in_default g t c =
    let k = g.S.Store.kept in
    let T = c.args.procs.now in
    let v = c.args.leaf.now in
    let ch = c.in-Ok.ensures.ok in
    let l = child_end true T c.args.left Left v c.in-Ok.first (k c.enter.new.store) (k c.run_branch.new.store) c.run_branch.result ch.0.left c.run_branch.ensures in
    let bad : IsBad c.run_branch.result = search rules in
    record {
      kin = left_kin true T v.budget (room_of v.path - 1) v.path c.args.left c.args.right (k c.args.store.now) (k c.enter.new.store) (v.done + 1) ch.1 (k c.run_branch.new.store) (k c.widen-in_default.new.self) c.run_branch.result l c.widen-in_default.ensures;
      bad = (bad, left_stops true T v.budget (room_of v.path - 1) v.path c.args.left c.args.right (k c.args.store.now) (k c.enter.new.store) (v.done + 1) ch.1 (k c.run_branch.new.store) (k c.widen-in_default.new.self) c.run_branch.result l c.widen-in_default.ensures bad);
      small = tt;
      ran = tt;
    }

pub run_branch-legs-init : goal.run_branch-legs-init
run_branch-legs-init g t c =
    let k = g.S.Store.kept in
    (none_yet c.args.procs.now c.args.leaf.budget (room_of c.args.leaf.path) c.args.leaf.stack (k c.args.store.now) c.args.leaf.done, c.requires.bounded.count_fits, c.requires.sized, refl, refl)

pub run_branch-returns-in-Ended : goal.run_branch-returns-in-Ended
run_branch-returns-in-Ended g t c =
    let k = g.S.Store.kept in
    let T = c.args.procs.now in
    let v = c.args.leaf in
    let i = c.legs.invariant in
    ended_is true T v.budget (room_of v.path) v.path v.stack c.legs.leaf.stack (k c.args.store.now) (k c.legs.store) (k c.run_leg.new.store) v.done c.legs.leaf.done c.in-Ended.end i.0 i.1
    (ends_by T v c.legs.leaf (k c.legs.store) c.in-Ended.end (k c.run_leg.new.store) (room_of v.path) i.3 i.4 (c.in-Ended.ensures.goes (room_of v.path)))

pub run_branch-fork_here-requires : goal.run_branch-fork_here-requires
run_branch-fork_here-requires g t c κs within =
    let i = c.legs.invariant in
    let q = c.in-Forked.ensures.goes 0 in
    let n = c.in-Forked.ensures.keeps in
    let req = fork_asks c.args.procs.now c.args.leaf c.legs.leaf c.run_leg.new.leaf c.in-Forked.left c.in-Forked.right (g.S.Store.kept c.legs.store) (g.S.Store.kept c.run_leg.new.store) i.3 i.4 n q c.requires.bounded in
    (search rules, (search rules, (req.0, (req.1, (req.2, (q.can, (q.first, q.second)))))))

pub run_branch-legs-smaller : goal.run_branch-legs-smaller
run_branch-legs-smaller g t c =
    let n = c.in-Forked.ensures.keeps in
    let d = c.rejoin.ensures.done in
    let m = c.in-Ok.ensures.ran.grows in
    let q = (c.in-Forked.ensures.goes 0).leg in
    let lt = q.unspent in
    let gr = q.ran.grows in
    let b = c.rejoin.ensures.budget in
    let nb = n.1 in omega arith

pub run_branch-legs-preserved : goal.run_branch-legs-preserved
run_branch-legs-preserved g t c =
    let k = g.S.Store.kept in
    let T = c.args.procs.now in
    let v = c.args.leaf in
    let i = c.legs.invariant in
    let n = c.in-Forked.ensures.keeps in
    fork_goes T v c.legs.leaf c.run_leg.new.leaf c.rejoin.new.leaf c.in-Forked.left c.in-Forked.right (k c.args.store.now) (k c.legs.store) (k c.run_leg.new.store) (k c.fork_here.new.store) c.in-Ok.both.left c.in-Ok.both.right c.in-Ok.both.steps i.0 i.3 i.4 n (c.in-Forked.ensures.goes (room_of v.path)) c.in-Ok.ensures.ran c.in-Ok.ensures.small
    (λ fs e. c.rejoin.ensures.joined fs e ∙ (ap (λ z. joined (wait_of T fs) z c.as_slice-in-Ok.result.now) c.as_slice.ensures ∙ ap (λ z. joined (wait_of T fs) c.in-Ok.both.left z) c.as_slice-in-Ok.ensures))
    (c.rejoin.ensures.sized n.2) c.rejoin.ensures.done c.rejoin.ensures.path c.rejoin.ensures.budget

pub run_branch-returns-in-Err : goal.run_branch-returns-in-Err
run_branch-returns-in-Err g t c =
    let k = g.S.Store.kept in
    let T = c.args.procs.now in
    let v = c.args.leaf in
    let i = c.legs.invariant in
    let n = c.in-Forked.ensures.keeps in
    let b = c.in-Err.ensures.bad in
    fork_ends T v c.legs.leaf c.run_leg.new.leaf c.in-Forked.left c.in-Forked.right (k c.args.store.now) (k c.legs.store) (k c.run_leg.new.store) (k c.fork_here.new.store) c.in-Err.end i.0 i.3 i.4 n (c.in-Forked.ensures.goes (room_of v.path)) c.fork_here.ensures.kin b.0 b.1
