use Rattle.std.proofs.Common.{◌≡◌, ◌≤◌, ◌+◌, ◌-◌, ◌*◌}
use Rattle.branch_exec.specs.Forks.{room_of}
use Rattle.branch_exec.specs.Leaves.{IsSized}
use Rattle.branch_exec.specs.Went.{Ran}
use Rattle.branch_exec.proofs.branch.+run_branch.Given as goal

abbrev pub decreases-run_branch : goal.decreases-run_branch
decreases-run_branch g l = 2 * room_of l.leaf.path

abbrev pub decreases-fork_here : goal.decreases-fork_here
decreases-fork_here g l = 2 * room_of l.leaf.now.path - 1

abbrev pub invariant-run_branch-legs : goal.invariant-run_branch-legs
invariant-run_branch-legs g l =
    Ran l.procs l.fn.leaf.budget (room_of l.fn.leaf.path) l.fn.leaf.stack (g.S.Store.kept l.initial.store) l.fn.leaf.done l.leaf.stack (g.S.Store.kept l.store) l.leaf.done
    × (l.leaf.done ≤ l.fn.leaf.budget + room_of l.fn.leaf.path)
    × IsSized l.procs l.leaf.stack l.leaf.waiting
    × (l.leaf.path ≡ l.fn.leaf.path)
    × (l.leaf.budget ≡ l.fn.leaf.budget)

abbrev pub decreases-run_branch-legs : goal.decreases-run_branch-legs
decreases-run_branch-legs g l = l.leaf.budget - l.leaf.done
