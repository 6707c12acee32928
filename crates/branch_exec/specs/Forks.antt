-- The steps of a fork.
use Rattle.std.specs.Prelude.{◌≡◌, ℕ, ◌+◌, ◌-◌, ◌^◌, ◌≤◌, ◌⊎◌, max, List, [], ◌∷◌, ◌++◌, length, Bool, true}
use Rattle.std.specs.Prelude.{Result, Ok, Err}
use Rattle.std.specs.Prelude.{Option, Some, None}
use Rattle.target_code.specs.declared.tree.Proc.{Proc}
use Rattle.target_meaning.specs.Leaf as leaf
use Rattle.target_meaning.specs.Held.{all_given}
use Rattle.target_meaning.specs.Piece.{Piece, plus}
use Rattle.target_meaning.specs.Turns.{run_of}
use Rattle.target_meaning.specs.declared.frame.Starting.{Starting}
use Rattle.target_meaning.specs.declared.path.Side.{Side}
use Rattle.target_meaning.specs.declared.path.Side.TheVariants.{Left, Right}
use Rattle.target_meaning.specs.declared.stack.Stack.TheVariants as stack
use Rattle.branch_exec.specs.Stores.{Kept, takes_of_left, right_given}
use Rattle.branch_exec.specs.Leaves.{IsSized, most_forks}
use Rattle.branch_exec.specs.Branches.{Runner, Names, Branch}
use Rattle.branch_exec.specs.Stops.{Stops}
use Rattle.branch_exec.specs.Ends.{Cause, FullAt}
use Rattle.branch_exec.specs.declared.leaf.Leaf.{Leaf}
use Rattle.branch_exec.specs.declared.end.BranchEnd.{BranchEnd}
use Rattle.branch_exec.specs.declared.end.BranchEnd.TheVariants as end
use Rattle.branch_exec.specs.declared.fork.Both.{Both}

-- how many more forks may lie below a path
abbrev pub room_of : List Side → ℕ
room_of path = most_forks - length path

-- what a branch may be given
pub record Bounded (l : Leaf) : Type 0 where
  pub budget_fits : l.budget ≤ 2 ^ 62
  pub path_fits : length l.path ≤ most_forks
  pub count_fits : l.done ≤ l.budget + room_of l.path

-- the leaf of a branch of a fork of this leaf
pub record IsChild (x : Starting) (side : Side) (v u : Leaf) : Type 0 where
  pub stack : u.stack ≡ stack.Run x.frames
  pub path : u.path ≡ v.path ++ side ∷ []
  pub done : u.done ≡ v.done + 1
  pub budget : u.budget ≡ v.budget
  pub sized : (T : List Proc) → IsSized T u.stack u.waiting

-- the leaves of both branches
pub record Children (l r : Starting) (v x y : Leaf) : Type 0 where
  pub left : IsChild l Left v x
  pub right : IsChild r Right v y

-- what is so of a bad end
abbrev pub IfBad : {A : Type 0} → Result A BranchEnd → (BranchEnd → Type 0) → Type 0
IfBad (Ok x) P = Unit {0}
IfBad (Err e) P = P e

-- the left branch's end, or, where it is done, the right one's
abbrev pub FirstBad : BranchEnd → BranchEnd → BranchEnd → Type 0
FirstBad (end.Done regs steps) two e = e ≡ two
FirstBad one two e = e ≡ one

-- both branches have results
pub record BothDone (one two : BranchEnd) (r : Both) : Type 0 where
  pub first : ℕ
  pub second : ℕ
  pub left : one ≡ end.Done r.left first
  pub right : two ≡ end.Done r.right second
  pub steps : r.steps ≡ max first second

-- the left branch of a fork begins with what it is given
abbrev pub left_start : List Proc → Starting → Piece → ℕ → Runner
left_start T l p c = record { piece = all_given (takes_of_left l) p; count = c; stack = run_of T l.frames }

-- the right one
abbrev pub right_start : List Proc → Starting → Starting → Piece → ℕ → Runner
right_start T l r p c = record { piece = right_given l r p; count = c; stack = run_of T r.frames }

-- the left branch of a fork stopped
pub record LeftStopped (T : List Proc) (b d : ℕ) (path : List Side) (l : Starting) (p : Piece) (c : ℕ) (names : Names) (e : BranchEnd) : Type 0 where
  pub below : List Side
  pub last : Runner
  pub stops : Stops T b d (left_start T l p c) names below last
  pub cause : Cause T b (path ++ Left ∷ below) e last

-- the left branch of a fork ended, and the right one stopped
pub record RightStopped (T : List Proc) (b d : ℕ) (path : List Side) (l r : Starting) (p : Piece) (c : ℕ) (names : Names) (e : BranchEnd) : Type 0 where
  pub first : Runner
  pub first_names : Names
  pub first_words : List ℕ
  pub first_run : Branch T b d (left_start T l p c) first_names first
  pub first_end : first.stack ≡ leaf.End first_words
  pub after : Names
  pub names_are : names ≡ first_names ++ after
  pub below : List Side
  pub last : Runner
  pub stops : Stops T b d (right_start T l r p c) after below last
  pub cause : Cause T b (path ++ Right ∷ below) e last

-- A fork whose branches did not both end: the left one stopped, or the right one after it; or there was no memory to begin with them.
pub record ForkStops (alone : Bool) (T : List Proc) (b d : ℕ) (path : List Side) (l r : Starting) (s t : Kept) (c : ℕ) (e : BranchEnd) : Type 0 where
  pub names : Names
  pub more : Names
  pub drawn : t.drawn ≡ s.drawn ++ (names ++ more)
  pub lone : alone ≡ true → more ≡ []
  pub walked : s.walked ≤ t.walked
  pub full : FullAt e s t
  pub side : ((e ≡ end.Memory) × (names ≡ [])) ⊎ (LeftStopped T b d path l s.top c names e ⊎ RightStopped T b d path l r s.top c names e)
