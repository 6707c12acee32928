-- Runs of a branch over a store.
use Rattle.std.specs.Prelude.{◌≡◌, ℕ, ◌+◌, ◌<◌, ◌≤◌, ◌⊎◌, ◌++◌, ◌∷◌, [], max, List, length, Bool, true}
use Rattle.std.specs.Prelude.{Option, Some, None}
use Rattle.target_code.specs.declared.tree.Proc.{Proc}
use Rattle.target_meaning.specs.Leaf as leaf
use Rattle.target_meaning.specs.Piece.{Piece, plus}
use Rattle.target_meaning.specs.declared.stack.Stack.{Stack}
use Rattle.target_meaning.specs.Stacks.{stack_of}
use Rattle.target_meaning.specs.declared.stack.Stack.TheVariants as stack
use Rattle.target_meaning.specs.declared.frame.Starting.{Starting}
use Rattle.target_meaning.specs.Held.{all_given}
use Rattle.target_meaning.specs.Turns.{run_of}
use Rattle.target_meaning.specs.declared.path.Side.{Side}
use Rattle.branch_exec.specs.declared.end.BranchEnd.{BranchEnd}
use Rattle.branch_exec.specs.declared.end.BranchEnd.TheVariants as end
use Rattle.branch_exec.specs.declared.leaf.Leaf.{Leaf}
use Rattle.branch_exec.specs.Leaves.{IsSized, most_forks}
use Rattle.branch_exec.specs.Stops.{Stops}
use Rattle.branch_exec.specs.Ends.{Cause, FullAt, IsBad}
use Rattle.branch_exec.specs.Stores.{Kept, CanGive, takes_of_left, both_kept, right_given}
use Rattle.branch_exec.specs.Legs.{GoesOn, TurnIs}
use Rattle.branch_exec.specs.Branches.{Runner, Names, Branch}
use Rattle.branch_exec.specs.declared.run.Turn.{Turn}
use Rattle.branch_exec.specs.declared.run.Turn.TheVariants as turn
use Rattle.branch_exec.specs.declared.leg.Leg.{Leg}
use Rattle.branch_exec.specs.declared.leg.Leg.TheVariants as leg

-- a branch that holds this piece, made so many steps and has this stack
abbrev pub runner : List Proc → Piece → ℕ → Stack → Runner
runner T p c v = record { piece = p; count = c; stack = stack_of T v }

-- A branch ran over a store: the count went from c to e, and the store from s to t.
pub record Ran (T : List Proc) (b d : ℕ) (v : Stack) (s : Kept) (c : ℕ) (u : Stack) (t : Kept) (e : ℕ) : Type 0 where
  pub names : Names
  pub run : Branch T b d (runner T s.top c v) names (runner T t.top e u)
  pub on : GoesOn s t names t.top
  pub grows : c ≤ e

-- a leg, and then a turn that is no step
pub record LegIs (T : List Proc) (b d : ℕ) (turn : Turn) (v : Stack) (s : Kept) (c : ℕ) (u : Stack) (t : Kept) (e : ℕ) : Type 0 where
  pub stack : Stack
  pub store : Kept
  pub ran : Ran T b d v s c stack store e
  pub unspent : e < b
  pub last : TurnIs T turn (leaf.act T (stack_of T stack)) store t stack u

-- a turn that is no step
abbrev pub IsStop : Turn → Type 0
IsStop turn.On = ⊥
IsStop _ = Unit {0}

-- what a leg ends with: a turn that is no step, or as many steps as it may make
abbrev pub EndsLeg : List Proc → ℕ → ℕ → Option Turn → Stack → Kept → ℕ → Stack → Kept → ℕ → Type 0
EndsLeg T b d (Some turn) v s c u t e = IsStop turn × LegIs T b d turn v s c u t e
EndsLeg T b d None v s c u t e = Ran T b d v s c u t e × ((e ≤ b) ⊎ (e ≡ c)) × (b ≤ e)

-- at a fork the size of the leaf is known
abbrev pub KeepsOne : List Proc → Option Turn → Stack → ℕ → Type 0
KeepsOne T (Some (turn.Fork l r)) u w = IsSized T u w
KeepsOne T _ u w = Unit {0}

-- Both branches of a fork ran to their ends: what they drew and hold, and what the store then holds.
pub record BothRan (T : List Proc) (b d : ℕ) (l r : Starting) (s t : Kept) (c : ℕ) (vs ws : List ℕ) (steps : ℕ) : Type 0 where
  pub can : CanGive s.top l r
  pub first : Piece
  pub first_names : Names
  pub first_count : ℕ
  pub first_run : Branch T b d (record { piece = all_given (takes_of_left l) s.top; count = c; stack = run_of T l.frames }) first_names (record { piece = first; count = first_count; stack = leaf.End vs })
  pub second : Piece
  pub second_names : Names
  pub second_count : ℕ
  pub second_run : Branch T b d (record { piece = right_given l r s.top; count = c; stack = run_of T r.frames }) second_names (record { piece = second; count = second_count; stack = leaf.End ws })
  pub on : GoesOn s t (first_names ++ second_names) (plus (both_kept l r s.top) (plus first second))
  pub steps_are : steps ≡ max first_count second_count
  pub grows : c ≤ steps

-- A branch's store is the one with which it began, but for the top and what it drew.
pub record Kin (s t : Kept) : Type 0 where
  pub below : t.below ≡ s.below
  pub cap : t.cap ≡ s.cap
  pub place : t.place ≡ s.place
  pub weight : t.weight ≡ s.weight

-- A branch stopped at a leaf in it: the run up to there is the left-first one, the leaf stops for this cause, and the first names drawn are those of this run. More are drawn only where a right branch ran beside a left one that ended badly, which does not come where a branch runs alone.
pub record Stopped (alone : Bool) (T : List Proc) (b d : ℕ) (path : List Side) (m : Runner) (s : Kept) (e : BranchEnd) (t : Kept) : Type 0 where
  pub names : Names
  pub more : Names
  pub below : List Side
  pub last : Runner
  pub stops : Stops T b d m names below last
  pub cause : Cause T b (path ++ below) e last
  pub drawn : t.drawn ≡ s.drawn ++ (names ++ more)
  pub lone : alone ≡ true → more ≡ []
  pub walked : s.walked ≤ t.walked
  pub full : FullAt e s t

-- How a branch ended, below which forks may lie so many deep. With results its run is the left-first run, of at most so many steps; else it stopped for the cause that is told.
pub record EndIs (alone : Bool) (T : List Proc) (b d : ℕ) (path : List Side) (v : Stack) (s : Kept) (c : ℕ) (e : BranchEnd) (t : Kept) : Type 0 where
  pub kin : Kin s t
  pub ran : (regs : List ℕ) (steps : ℕ) → e ≡ end.Done regs steps → Ran T b d v s c (stack.End regs) t steps × (steps ≤ b + d)
  pub stopped : IsBad e → Stopped alone T b d path (runner T s.top c v) s e t

-- how a leg ended
pub record LegEnds (T : List Proc) (b d : ℕ) (path : List Side) (v : Stack) (s : Kept) (c : ℕ) (e : BranchEnd) (t : Kept) : Type 0 where
  pub kin : Kin s t
  pub ran : (regs : List ℕ) (steps : ℕ) → e ≡ end.Done regs steps → Ran T b d v s c (stack.End regs) t steps × ((steps ≡ c) ⊎ (steps ≤ b))
  pub stopped : IsBad e → Stopped true T b d path (runner T s.top c v) s e t

-- a leg that ended at a fork that can be made: its branches begin with one frame each
pub record Forks (T : List Proc) (b d : ℕ) (l r : Starting) (v : Stack) (s : Kept) (c : ℕ) (u : Stack) (t : Kept) (e : ℕ) : Type 0 where
  pub leg : LegIs T b d (turn.Fork l r) v s c u t e
  pub can : CanGive t.top l r
  pub first : l.frames.below.items ≡ []
  pub second : r.frames.below.items ≡ []

-- a leg from one state of its leaf to another
abbrev pub LegGoes : List Proc → ℕ → Leg → Leaf → Kept → Leaf → Kept → Type 0
LegGoes T d (leg.Ended e) v s u t = LegEnds T v.budget d v.path v.stack s v.done e t
LegGoes T d (leg.Forked l r) v s u t = Forks T v.budget d l r v.stack s v.done u.stack t u.done

-- what a leg leaves as it was: path and budget; at a fork the size of the leaf is known, and less than 64 forks lie above it
abbrev pub LegKeeps : List Proc → Leg → Leaf → Leaf → Type 0
LegKeeps T (leg.Ended e) v u = Unit {0}
LegKeeps T (leg.Forked l r) v u = (u.path ≡ v.path) × (u.budget ≡ v.budget) × IsSized T u.stack u.waiting × (length u.path < most_forks)
