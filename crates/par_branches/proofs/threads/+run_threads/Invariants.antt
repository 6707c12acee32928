use Rattle.std.proofs.Common.{◌≡◌, ◌≤◌, ◌+◌, ◌-◌, ◌*◌}
use Rattle.branch_exec.specs.Forks.{room_of}
use Rattle.branch_exec.specs.Leaves.{IsSized}
use Rattle.branch_exec.specs.Went.{Ran}
use Rattle.par_branches.proofs.threads.+run_threads.Given as goal

abbrev pub decreases-run_both-join+arg2 : goal.decreases-run_both-join+arg2
decreases-run_both-join+arg2 g l = 3 * room_of l.first.leaf.path + 1

abbrev pub decreases-run_both-join+arg3 : goal.decreases-run_both-join+arg3
decreases-run_both-join+arg3 g l = 3 * room_of l.second.leaf.path + 1

abbrev pub decreases-run_threads : goal.decreases-run_threads
decreases-run_threads g l = 3 * room_of l.task.leaf.path

abbrev pub decreases-run_both : goal.decreases-run_both
decreases-run_both g l = 3 * room_of l.both.0.leaf.path + 2

abbrev pub invariant-run_threads-legs : goal.invariant-run_threads-legs
invariant-run_threads-legs g l =
    Ran l.procs l.fn.task.leaf.budget (room_of l.fn.task.leaf.path) l.fn.task.leaf.stack (g.S.Store.kept l.fn.task.store) l.fn.task.leaf.done l.leaf.stack (g.S.Store.kept l.store) l.leaf.done
    × (l.leaf.done ≤ l.fn.task.leaf.budget + room_of l.fn.task.leaf.path)
    × IsSized l.procs l.leaf.stack l.leaf.waiting
    × (l.leaf.path ≡ l.fn.task.leaf.path)
    × (l.leaf.budget ≡ l.fn.task.leaf.budget)

abbrev pub decreases-run_threads-legs : goal.decreases-run_threads-legs
decreases-run_threads-legs g l = l.leaf.budget - l.leaf.done
