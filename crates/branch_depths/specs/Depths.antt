-- How deep forks lie in the left-first run of a branch.
use Rattle.std.specs.Prelude.{◌≡◌, ℕ, zero, suc, ◌≤◌, List, ◌++◌}
use Rattle.target_code.specs.declared.tree.Proc.{Proc}
use Rattle.target_meaning.specs.Held.{holdings}
use Rattle.target_meaning.specs.LeftFirst.{act_at, first_name, left_first, left_path, names_after}
use Rattle.target_meaning.specs.Machine.{Heap, Leaf, Moved, Notes, Tree, any_room, depth, move}
use Rattle.target_meaning.specs.Piece.{Holds, Piece, plus}
use Rattle.target_meaning.specs.Runs.{OnMoved}
use Rattle.branch_exec.specs.Branches.{Branch, Names, Runner}
use Rattle.branch_exec.specs.LeftRuns.{After, Fresh, names_of}

-- in the left-first run of so many steps no leaf lies below more than so many forks
abbrev pub StaysIn : {A : Type 0} → Notes A → List Proc → ℕ → ℕ → List ℕ → Tree A → Heap → Type 0
StaysIn N T d zero ns t h = depth t ≤ d
StaysIn N T d (suc n) ns t h = (depth t ≤ d) × OnMoved (move N any_room T t h (left_path t) (first_name ns)) (λ u g. StaysIn N T d n (names_after (act_at T t (left_path t)) ns) u g)

-- the left-first run with these names and any more behind them takes a leaf from s to t; no leaf lies below more than so many forks, and the heap has at the end what the leaf
-- then holds, beside the frame
pub record ShallowRun (T : List Proc) (d : ℕ) (s : Runner) (xs : Names) (t : Runner) (q : Piece) (h : Heap) (ns : List ℕ) : Type 0 where
  pub steps : ℕ
  pub heap : Heap
  pub run : left_first holdings T steps (names_of xs ++ ns) (Leaf s.piece s.stack) h ≡ Moved (Leaf t.piece t.stack) heap
  pub stays : StaysIn holdings T d steps (names_of xs ++ ns) (Leaf s.piece s.stack) h
  pub holds : Holds (plus t.piece q) heap
  pub after : After h xs heap

abbrev pub BranchesAreShallow : Type 0
BranchesAreShallow =
    (T : List Proc) (b d : ℕ) (s : Runner) (xs : Names) (t : Runner) (q : Piece) (h : Heap) (ns : List ℕ)
    → Branch T b d s xs t → Holds (plus s.piece q) h → Fresh h xs → ShallowRun T d s xs t q h ns
