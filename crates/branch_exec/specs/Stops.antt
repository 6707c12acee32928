-- The left-first run of a branch up to a leaf in it, which need not end.
use Rattle.std.specs.Prelude.{◌≡◌, ℕ, zero, suc, ◌<◌, List, [], ◌∷◌, ◌++◌}
use Rattle.target_code.specs.declared.tree.Proc.{Proc}
use Rattle.target_meaning.specs.Leaf as leaf
use Rattle.target_meaning.specs.declared.path.Side.{Side}
use Rattle.target_meaning.specs.declared.path.Side.TheVariants.{Left, Right}
use Rattle.branch_exec.specs.Branches.{Runner, Names, Branch, CanFork, left_child, right_child}

-- a branch ran up to a fork that it may make
pub record AtFork (T : List Proc) (b d : ℕ) (s : Runner) (xs : Names) (fork : Runner) (left right : leaf.Child) : Type 0 where
  pub run : Branch T b d s xs fork
  pub unspent : fork.count < b
  pub wait : leaf.Wait
  pub at : leaf.act T fork.stack ≡ leaf.Split left right wait
  pub can : CanFork fork.piece left right

-- a fork whose left branch ran so
pub record InLeft (T : List Proc) (b d : ℕ) (Inner : Runner → Names → Type 0) (s : Runner) (xs : Names) : Type 0 where
  pub fork : Runner
  pub left : leaf.Child
  pub right : leaf.Child
  pub before : Names
  pub at : AtFork T b d s before fork left right
  pub after : Names
  pub inner : Inner (left_child fork left right) after
  pub names : xs ≡ before ++ after

-- a fork whose left branch ended, and whose right branch ran so; forks in the left one lie so many deep
pub record InRight (T : List Proc) (b d e : ℕ) (Inner : Runner → Names → Type 0) (s : Runner) (xs : Names) : Type 0 where
  pub fork : Runner
  pub left : leaf.Child
  pub right : leaf.Child
  pub before : Names
  pub at : AtFork T b d s before fork left right
  pub first : Runner
  pub first_names : Names
  pub first_words : List ℕ
  pub first_run : Branch T b e (left_child fork left right) first_names first
  pub first_end : first.stack ≡ leaf.End first_words
  pub after : Names
  pub inner : Inner (right_child fork left right) after
  pub names : xs ≡ before ++ (first_names ++ after)

-- the run of a branch, below which forks lie at most so many deep, up to the leaf at a path in it
abbrev pub Stops : List Proc → ℕ → ℕ → Runner → Names → List Side → Runner → Type 0
Stops T b d s xs [] t = Branch T b d s xs t
Stops T b zero s xs (x ∷ ds) t = ⊥
Stops T b (suc d) s xs (Left ∷ ds) t = InLeft T b (suc d) (λ m ys. Stops T b d m ys ds t) s xs
Stops T b (suc d) s xs (Right ∷ ds) t = InRight T b (suc d) d (λ m ys. Stops T b d m ys ds t) s xs
