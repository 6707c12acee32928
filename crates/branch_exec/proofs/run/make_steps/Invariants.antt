use Rattle.std.specs.Prelude.{ℕ, ◌-◌, ◌≤◌, ◌≡◌, ◌⊎◌}
use Rattle.branch_exec.specs.Leaves.{IsSized}
use Rattle.branch_exec.specs.Went.{Ran}
use Rattle.branch_exec.proofs.run.make_steps.Given as goal

abbrev pub invariant-steps : goal.invariant-steps
invariant-steps g l =
    ((d : ℕ) → Ran l.procs l.initial.leaf.budget d l.initial.leaf.stack (g.S.Store.kept l.initial.store) l.initial.leaf.done l.leaf.stack (g.S.Store.kept l.store) l.leaf.done)
    × ((l.leaf.done ≤ l.leaf.budget) ⊎ (l.leaf.done ≡ l.initial.leaf.done))
    × IsSized l.procs l.leaf.stack l.leaf.waiting
    × (l.leaf.path ≡ l.initial.leaf.path)
    × (l.leaf.budget ≡ l.initial.leaf.budget)

abbrev pub decreases-steps : goal.decreases-steps
decreases-steps g l = l.leaf.budget - l.leaf.done
