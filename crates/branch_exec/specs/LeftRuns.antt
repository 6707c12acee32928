-- The run of a branch as the left-first run of the machine, in any heap that has what it holds beside any frame.
use Rattle.std.specs.Prelude.{◌≡◌, ◌≢◌, ℕ, suc, ◌+◌, ◌<◌, max, true, List, [], ◌∷◌, ◌++◌}
use Rattle.target_code.specs.declared.tree.Proc.{Proc}
use Rattle.target_meaning.specs.Machine.{Heap, Tree, Leaf, Moved, Notes, counts, nothing, is_new}
use Rattle.target_meaning.specs.LeftFirst.{left_first, left_path}
use Rattle.target_meaning.specs.Runs.{AtLeaf}
use Rattle.target_meaning.specs.declared.path.Side.{Side}
use Rattle.target_meaning.specs.Piece.{Piece, Holds, plus}
use Rattle.target_meaning.specs.Held.{holdings}
use Rattle.target_meaning.specs.Leaf.{Stack, End}
use Rattle.target_meaning.specs.declared.stack.Stack as code
use Rattle.branch_exec.specs.declared.end.BranchEnd.{BranchEnd}
use Rattle.branch_exec.specs.Ends.{Cause, FullAt}
use Rattle.branch_exec.specs.Branches.{Runner, Names}
use Rattle.branch_exec.specs.Stores.{Kept}
use Rattle.branch_exec.specs.Went.{runner}

-- the names of the blocks
abbrev pub names_of : Names → List ℕ
names_of [] = []
names_of (x ∷ xs) = x.0 ∷ names_of xs

-- the words that the blocks claim
abbrev pub claimed_by : Names → ℕ
claimed_by [] = 0
claimed_by (x ∷ xs) = x.1 + 1 + claimed_by xs

-- no block has this name
abbrev pub NotAmong : ℕ → Names → Type 0
NotAmong y [] = Unit {0}
NotAmong y (x ∷ xs) = (y ≢ x.0) × NotAmong y xs

-- the names lie in 1 to the capacity, were never made and differ, and each block is shorter than the capacity
abbrev pub Fresh : Heap → Names → Type 0
Fresh h [] = Unit {0}
Fresh h (x ∷ xs) = (is_new h x.0 ≡ true) × (x.1 < h.cap) × NotAmong x.0 xs × Fresh h xs

-- a heap after steps that made these blocks and no others
pub record After (h : Heap) (xs : Names) (g : Heap) : Type 0 where
  pub cap : g.cap ≡ h.cap
  pub claimed : g.claimed ≡ h.claimed + claimed_by xs
  pub new : (y : ℕ) → NotAmong y xs → is_new h y ≡ true → is_new g y ≡ true

-- what a leaf holds, and how many steps it made
abbrev pub marked : Notes (Piece × ℕ)
marked = record {
  after = λ a e x. (holdings.after a.0 e x, suc a.1);
  kept = λ a l r. (holdings.kept a.0 l r, suc a.1);
  left = λ a l r. (holdings.left a.0 l r, suc a.1);
  right = λ a l r. (holdings.right a.0 l r, suc a.1);
  join = λ a p q. (plus a.0 (plus p.0 q.0), suc (max p.1 q.1));
}

-- the left-first run with these names and any more behind them: it takes a leaf from s to t, with what the leaf holds, with the count of steps on its path, and with no notes; and the heap has at the end what it then holds, beside the frame
pub record LeftRun (T : List Proc) (s : Runner) (xs : Names) (t : Runner) (q : Piece) (h : Heap) (ns : List ℕ) : Type 0 where
  pub steps : ℕ
  pub heap : Heap
  pub both : left_first marked T steps (names_of xs ++ ns) (Leaf (s.piece, s.count) s.stack) h ≡ Moved (Leaf (t.piece, t.count) t.stack) heap
  pub held : left_first holdings T steps (names_of xs ++ ns) (Leaf s.piece s.stack) h ≡ Moved (Leaf t.piece t.stack) heap
  pub counted : left_first counts T steps (names_of xs ++ ns) (Leaf s.count s.stack) h ≡ Moved (Leaf t.count t.stack) heap
  pub alone : left_first nothing T steps (names_of xs ++ ns) (Leaf tt s.stack) h ≡ Moved (Leaf tt t.stack) heap
  pub holds : Holds (plus t.piece q) heap
  pub after : After h xs heap

-- A branch over a store, which went from s to t, has these results after so many steps: in each heap that has what the store held beside any frame, and in which the names that the store drew are new, the left-first run with these names ends with the same results, count and words.
pub record DoneLeft (T : List Proc) (v : code.Stack) (s : Kept) (c : ℕ) (regs : List ℕ) (steps : ℕ) (t : Kept) : Type 0 where
  pub names : Names
  pub drawn : t.drawn ≡ s.drawn ++ names
  pub run : (q : Piece) (h : Heap) (ns : List ℕ) → Holds (plus s.top q) h → Fresh h names → LeftRun T (runner T s.top c v) names (record { piece = t.top; count = steps; stack = End regs }) q h ns

-- the leaf of a runner
abbrev pub IsAtLeaf : Runner → Piece × ℕ → Stack → Type 0
IsAtLeaf t a k = (a ≡ (t.piece, t.count)) × (k ≡ t.stack)

-- the left-first run with these names and any more behind them comes to a tree in which it is the turn of the leaf at this path; this leaf holds this piece, made so many steps on its path and has this stack, and the heap has what it holds beside a frame
pub record LeftStop (T : List Proc) (s : Runner) (xs : Names) (ds : List Side) (t : Runner) (h : Heap) (ns : List ℕ) : Type 0 where
  pub steps : ℕ
  pub tree : Tree (Piece × ℕ)
  pub heap : Heap
  pub run : left_first marked T steps (names_of xs ++ ns) (Leaf (s.piece, s.count) s.stack) h ≡ Moved tree heap
  pub turn : left_path tree ≡ ds
  pub at : AtLeaf tree ds (IsAtLeaf t)
  pub rest : Piece
  pub holds : Holds (plus t.piece rest) heap
  pub after : After h xs heap

-- A branch stopped at a leaf for this cause: in each heap that has what the store held beside any frame, and in which the names drawn up to there are new, the left-first run with these names comes to this leaf.
pub record StoppedLeft (T : List Proc) (b : ℕ) (path : List Side) (v : code.Stack) (s : Kept) (c : ℕ) (e : BranchEnd) (t : Kept) : Type 0 where
  pub names : Names
  pub more : Names
  pub drawn : t.drawn ≡ s.drawn ++ (names ++ more)
  pub below : List Side
  pub last : Runner
  pub cause : Cause T b (path ++ below) e last
  pub full : FullAt e s t
  pub run : (q : Piece) (h : Heap) (ns : List ℕ) → Holds (plus s.top q) h → Fresh h names → LeftStop T (runner T s.top c v) names below last h ns
