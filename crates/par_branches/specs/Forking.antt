-- The steps of a fork on threads, and how a branch ends that may have run on threads.
use Rattle.std.specs.Prelude.{◌≡◌, ℕ, ◌+◌, ◌-◌, ◌/◌, ◌≤◌, ◌⊎◌, List, ◌++◌, false}
use Rattle.target_code.specs.declared.tree.Proc.{Proc}
use Rattle.target_meaning.specs.declared.frame.Starting.{Starting}
use Rattle.branch_exec.specs.Ends.{IsBad}
use Rattle.branch_exec.specs.Forks.{Children, FirstBad, room_of}
use Rattle.branch_exec.specs.Stores.{Kept, HandsOut}
use Rattle.branch_exec.specs.Went.{EndIs}
use Rattle.branch_exec.specs.declared.end.BranchEnd.{BranchEnd}
use Rattle.branch_exec.specs.declared.end.BranchEnd.TheVariants as end
use Rattle.branch_exec.specs.declared.leaf.Leaf.{Leaf}
use Rattle.par_branches.specs.Workers.{Enough}

-- a leaf ended so, and its store went from s to t: with results as the left-first run of it, else where this run stops, with the names that it drew up to there and maybe more
abbrev pub EndsOnThreads : List Proc → Leaf → Kept → BranchEnd → Kept → Type 0
EndsOnThreads T v s e t = EndIs false T v.budget (room_of v.path) v.path v.stack s v.done e t

-- a store s was cut for both branches of a fork of the leaf v: their leaves, the store of each, and workers enough
pub record Hands (l r : Starting) (v : Leaf) (s t : Kept) (workers : ℕ) (x : Leaf) (a : Kept) (y : Leaf) (b : Kept) : Type 0 where
  pub children : Children l r v x y
  pub out : HandsOut s t a b l r
  pub left : Enough (workers - workers / 2) a.weight
  pub right : Enough (workers / 2) b.weight

-- both came back, the left one first
pub record BothBack (s t a b : Kept) : Type 0 where
  pub below : t.below ≡ s.below
  pub drawn : t.drawn ≡ (s.drawn ++ a.drawn) ++ b.drawn
  pub walked : s.walked ≤ t.walked
  pub left : a.walked ≤ t.walked
  pub right : b.walked ≤ t.walked
  pub cap : t.cap ≡ s.cap
  pub place : t.place ≡ s.place
  pub weight : t.weight ≡ s.weight + a.weight + b.weight

-- the end that is told of two branches: the left one's bad end, else the right one's, or want of memory
pub record IsTold (one two e : BranchEnd) : Type 0 where
  pub bad : IsBad e
  pub which : FirstBad one two e ⊎ (e ≡ end.Memory)
