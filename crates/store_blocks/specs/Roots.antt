-- The leaf at which a run begins.
use Rattle.std.specs.Prelude.{◌≡◌, ℕ, List, []}
use Rattle.target_code.specs.declared.tree.Proc.{Proc}
use Rattle.target_meaning.specs.Leaf.{Run, begin}
use Rattle.target_meaning.specs.Stacks.{proc_at, stack_of}
use Rattle.branch_exec.specs.Leaves.{IsSized}
use Rattle.branch_exec.specs.declared.leaf.Leaf.{Leaf}

pub record IsRoot (T : List Proc) (regs : List ℕ) (budget : ℕ) (l : Leaf) : Type 0 where
  pub stack : stack_of T l.stack ≡ Run (begin (proc_at T 0) regs) []
  pub sized : IsSized T l.stack l.waiting
  pub path : l.path ≡ []
  pub done : l.done ≡ 0
  pub same : l.budget ≡ budget
