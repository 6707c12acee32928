-- What a branch needs to run with some workers.
use Rattle.std.specs.Prelude.{ℕ, ◌^◌, ◌≤◌, List}
use Rattle.target_code.specs.declared.tree.Proc.{Proc}
use Rattle.branch_exec.specs.Forks.{Bounded}
use Rattle.branch_exec.specs.Leaves.{IsSized}
use Rattle.branch_exec.specs.Stores.{Kept}
use Rattle.branch_exec.specs.declared.leaf.Leaf.{Leaf}

-- a store of this weight can be cut for so many workers: a fork halves the workers, and gives each branch a quarter of the weight
pub record Enough (workers weight : ℕ) : Type 0 where
  pub levels : ℕ
  pub few : workers ≤ 2 ^ levels
  pub heavy : 4 ^ levels ≤ weight

-- a leaf may run over a store with so many workers
pub record MayRun (T : List Proc) (workers : ℕ) (v : Leaf) (s : Kept) : Type 0 where
  pub bounded : Bounded v
  pub sized : IsSized T v.stack v.waiting
  pub enough : Enough workers s.weight
