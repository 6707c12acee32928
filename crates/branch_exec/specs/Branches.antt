-- The run of a branch on what it holds, left first: its legs, and at each fork the left branch, the right branch and the join, one after the other. It needs no heap, and nothing but the top piece.
use Rattle.std.specs.Prelude.{◌≡◌, ℕ, zero, suc, ◌+◌, ◌<◌, ◌≤◌, ◌⊎◌, max, List, [], ◌∷◌, ◌++◌}
use Rattle.target_code.specs.declared.tree.Proc.{Proc}
use Rattle.target_meaning.specs.Leaf as leaf
use Rattle.target_meaning.specs.Piece.{Piece, plus}
use Rattle.target_meaning.specs.Held.{holdings, CanTake, AreApart, left_takes, right_takes, all_kept}
use Rattle.branch_exec.specs.Leaves.{PassesLimit}
use Rattle.branch_exec.specs.Legs.{Step}

-- a branch that runs: what it holds, how many steps it made on its path, and its stack
pub record Runner : Type 0 where
  pub piece : Piece
  pub count : ℕ
  pub stack : leaf.Stack

-- the blocks that were drawn, with their lengths
abbrev pub Names : Type 0
Names = List (ℕ × ℕ)

-- what takes a branch from one state to another, with the blocks that it draws
abbrev pub Way : Type 1
Way = Runner → Names → Runner → Type 0

-- the parts of a fork can be given
pub record CanFork (p : Piece) (l r : leaf.Child) : Type 0 where
  pub left : CanTake (left_takes l) p
  pub right : CanTake (right_takes l r) (all_kept (left_takes l) p)
  pub left_apart : AreApart (l.hands ++ l.lends)
  pub right_apart : AreApart (r.hands ++ r.lends)

-- the left child of a fork
abbrev pub left_child : Runner → leaf.Child → leaf.Child → Runner
left_child s l r = record { piece = holdings.left s.piece l r; count = suc s.count; stack = l.stack }

-- the right child
abbrev pub right_child : Runner → leaf.Child → leaf.Child → Runner
right_child s l r = record { piece = holdings.right s.piece l r; count = suc s.count; stack = r.stack }

-- after the join
abbrev pub after_join : Runner → leaf.Child → leaf.Child → leaf.Wait → Runner → List ℕ → Runner → List ℕ → Runner
after_join s l r w x vs y ws = record { piece = plus (holdings.kept s.piece l r) (plus x.piece y.piece); count = suc (max x.count y.count); stack = leaf.joined w vs ws }

-- a fork whose left branch ran to its end, then its right branch, and which was joined
pub record Forked (Below : Way) (a : leaf.Act) (s : Runner) (xs : Names) (t : Runner) : Type 0 where
  pub left : leaf.Child
  pub right : leaf.Child
  pub wait : leaf.Wait
  pub at : a ≡ leaf.Split left right wait
  pub can : CanFork s.piece left right
  pub first : Runner
  pub first_names : Names
  pub first_words : List ℕ
  pub first_run : Below (left_child s left right) first_names first
  pub first_end : first.stack ≡ leaf.End first_words
  pub second : Runner
  pub second_names : Names
  pub second_words : List ℕ
  pub second_run : Below (right_child s left right) second_names second
  pub second_end : second.stack ≡ leaf.End second_words
  pub names : xs ≡ first_names ++ second_names
  pub is : t ≡ after_join s left right wait first first_words second second_words

-- a step of the branch's own leaf, which is no call that passes a limit
pub record Stepped (a : leaf.Act) (s : Runner) (xs : Names) (t : Runner) : Type 0 where
  pub step : Step a s.piece xs t.piece t.stack
  pub count : t.count ≡ suc s.count
  pub shallow : PassesLimit s.stack t.stack → ⊥

-- a step of its own leaf or a fork with all that is in it; the leaf has not made its steps
pub record Move (T : List Proc) (budget : ℕ) (Below : Way) (s : Runner) (xs : Names) (t : Runner) : Type 0 where
  pub unspent : s.count < budget
  pub move : Stepped (leaf.act T s.stack) s xs t ⊎ Forked Below (leaf.act T s.stack) s xs t

-- one move and then more
pub record Then (One More : Way) (s : Runner) (xs : Names) (t : Runner) : Type 0 where
  pub between : Runner
  pub first_names : Names
  pub more_names : Names
  pub one : One s first_names between
  pub more : More between more_names t
  pub names : xs ≡ first_names ++ more_names

-- so many moves
abbrev pub Moves : List Proc → ℕ → Way → ℕ → Way
Moves T b Below zero s xs t = (xs ≡ []) × (t ≡ s)
Moves T b Below (suc n) s xs t = Then (Move T b Below) (Moves T b Below n) s xs t

-- some number of moves
pub record Runs (T : List Proc) (b : ℕ) (Below : Way) (s : Runner) (xs : Names) (t : Runner) : Type 0 where
  pub number : ℕ
  pub moves : Moves T b Below number s xs t

-- the ways of branches below which forks lie less than so many deep
abbrev pub Deep : List Proc → ℕ → ℕ → Way
Deep T b zero s xs t = ⊥
Deep T b (suc d) s xs t = Runs T b (Deep T b d) s xs t

-- the run of a branch below which forks lie at most so many deep
abbrev pub Branch : List Proc → ℕ → ℕ → Way
Branch T b d = Runs T b (Deep T b d)
