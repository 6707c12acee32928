-- What the run of a program on values means.
use Rattle.std.specs.Prelude.{◌≡◌, ℕ, ◌+◌, ◌<◌, ◌≤◌, ◌⊎◌, List, [], true}
use Rattle.nres_core.specs.declared.value.Value.{Value}
use Rattle.target_code.specs.declared.tree.Proc.{Proc}
use Rattle.target_code.specs.declared.tree.Program.{Program}
use Rattle.target_code.specs.declared.tree.Rep.{Rep}
use Rattle.target_meaning.specs.Held.{holdings}
use Rattle.target_meaning.specs.Leaf.{Run, Stack, End, begin}
use Rattle.target_meaning.specs.LeftFirst.{left_first}
use Rattle.target_meaning.specs.Machine.{Heap, Leaf, Moved, counts}
use Rattle.target_meaning.specs.Piece.{Piece, Holds}
use Rattle.target_meaning.specs.Stacks.{proc_at, stack_of}
use Rattle.target_meaning.specs.declared.path.Side.{Side}
use Rattle.target_meaning.specs.declared.stack.Stack as code
use Rattle.branch_exec.specs.Branches.{Branch, Names, Runner}
use Rattle.branch_exec.specs.Ends.{Cause}
use Rattle.branch_exec.specs.LeftRuns.{LeftStop, names_of}
use Rattle.branch_exec.specs.Stores.{Kept}
use Rattle.branch_exec.specs.Went.{EndIs}
use Rattle.branch_exec.specs.declared.end.BranchEnd.{BranchEnd}
use Rattle.branch_exec.specs.declared.end.BranchEnd.TheVariants as end
use Rattle.relations.specs.Values.{live}
use Rattle.soundness.specs.Start.{BeginFromOne}
use Rattle.run_begins.specs.Beginning.{AreUnfit}
use Rattle.run_inputs.specs.declared.place.Unplaced.{Unplaced}
use Rattle.run_inputs.specs.declared.place.Unplaced.TheVariants as unplaced
use Rattle.run_results.specs.Results.{AllShow, FirstNone}
use Rattle.program_run.specs.declared.end.RunEnd.{RunEnd}
use Rattle.program_run.specs.declared.end.RunEnd.TheVariants as run

-- ---- the run of the root

-- how many forks may lie below the root
abbrev pub most_forks : ℕ
most_forks = 64

-- the root began the first procedure on these words, made no step before, and ended so
pub record RootRan (T : List Proc) (regs : List ℕ) (steps : ℕ) (s t : Kept) (e : BranchEnd) : Type 0 where
  pub stack : code.Stack
  pub begins : stack_of T stack ≡ Run (begin (proc_at T 0) regs) []
  pub ends : EndIs true T steps most_forks [] stack s 0 e t

-- unless there was no memory
abbrev pub RootEnds : List Proc → List ℕ → ℕ → Kept → Kept → BranchEnd → Type 0
RootEnds T regs steps s t e = (e ≡ end.Memory → ⊥) → RootRan T regs steps s t e

-- the results of a root that ended with these registers and holds this are told
abbrev pub AreTold : Piece → List Rep → List ℕ → RunEnd → Type 0
AreTold p outs regs (run.Values vs) = AllShow p outs vs regs
AreTold p outs regs (run.NoValue k) = (n : ℕ) × (k ≡ n + 1) × FirstNone p outs regs n
AreTold p outs regs _ = ⊥

-- with results
abbrev pub ShowsEnd : BranchEnd → Kept → List Rep → RunEnd → Type 0
ShowsEnd e t outs r = (regs : List ℕ) × (steps : ℕ) × (e ≡ end.Done regs steps) × AreTold t.top outs regs r

-- how the root ended is told: with results by these, else by the same cause; where a claim did not fit, by the words claimed before
abbrev pub Tells : BranchEnd → Kept → List Rep → RunEnd → Type 0
Tells e t outs (run.Values vs) = ShowsEnd e t outs (run.Values vs)
Tells e t outs (run.NoValue k) = ShowsEnd e t outs (run.NoValue k)
Tells e t outs (run.Stuck spot reason) = e ≡ end.Stuck spot reason
Tells e t outs (run.Unowned spot block offset) = e ≡ end.Unowned spot block offset
Tells e t outs (run.OutOfSteps path) = e ≡ end.OutOfSteps path
Tells e t outs (run.HeapFull at len) = (n : ℕ) × (e ≡ end.Full n len) × (at ≡ t.walked)
Tells e t outs (run.Depth path) = e ≡ end.Depth path

-- a block of the inputs that does not fit is told
abbrev pub IsUnfit : Unplaced → RunEnd → Type 0
IsUnfit u (run.HeapFull at len) = u ≡ unplaced.Full at len
IsUnfit u _ = ⊥

-- ---- what it means

-- a program at its beginning on these values, as their images, in a heap of this capacity; blocks have names from 1 on
pub record Beginning (T : Program) (us : List Value) (cap : ℕ) : Type 0 where
  pub stack : Stack
  pub heap : Heap
  pub begins : BeginFromOne T us cap stack heap

-- the root holds what is live, and made no step
abbrev pub root : Stack → Heap → Runner
root s h = record { piece = live h; count = 0; stack = s }

-- From the beginning the left-first run, with the names that it drew, has ended with these registers, and the root holds this. No leaf made a step at a count of the budget or more, other than a join; the words claimed are at most the capacity.
pub record Finished (T : Program) (us : List Value) (cap steps : ℕ) (regs : List ℕ) (top : Piece) : Type 0 where
  pub beginning : Beginning T us cap
  pub names : Names
  pub number : ℕ
  pub count : ℕ
  pub heap : Heap
  pub run : left_first holdings T.procs number (names_of names) (Leaf (live beginning.heap) beginning.stack) beginning.heap ≡ Moved (Leaf top (End regs)) heap
  pub counted : left_first counts T.procs number (names_of names) (Leaf 0 beginning.stack) beginning.heap ≡ Moved (Leaf count (End regs)) heap
  pub within : Branch T.procs steps most_forks (root beginning.stack beginning.heap) names (record { piece = top; count = count; stack = End regs })
  pub few : count ≤ steps + most_forks
  pub holds : Holds top heap
  pub claimed : heap.claimed ≤ cap

-- From the beginning the left-first run, with the names that it drew, has come to the leaf at this path, and it is this leaf's turn; there it stops for this cause. The words claimed are at most the capacity.
pub record Stopped (T : Program) (us : List Value) (cap steps : ℕ) (e : BranchEnd) : Type 0 where
  pub beginning : Beginning T us cap
  pub names : Names
  pub path : List Side
  pub last : Runner
  pub run : LeftStop T.procs (root beginning.stack beginning.heap) names path last beginning.heap []
  pub cause : Cause T.procs steps path e last
  pub claimed : run.heap.claimed ≤ cap

-- the leaf wants more words than the capacity has left behind those that are claimed
pub record WantsTooMuch (T : Program) (us : List Value) (cap steps at len : ℕ) : Type 0 where
  pub stopped : Stopped T us cap steps (end.Full at len)
  pub exact : at ≡ stopped.run.heap.claimed
  pub over : cap < at + 1 + len

-- results
abbrev pub Results : Program → List Value → ℕ → ℕ → RunEnd → Type 0
Results T us cap steps r = (regs : List ℕ) × (top : Piece) × Finished T us cap steps regs top × AreTold top T.outs regs r

-- what the end of a run on these values means, in a heap of this capacity and with this budget of steps
abbrev pub RunMeans : Program → List Value → ℕ → ℕ → RunEnd → Type 0
RunMeans T us cap steps (run.Values vs) = Results T us cap steps (run.Values vs)
RunMeans T us cap steps (run.NoValue k) = Results T us cap steps (run.NoValue k)
RunMeans T us cap steps (run.Stuck spot reason) = Stopped T us cap steps (end.Stuck spot reason)
RunMeans T us cap steps (run.Unowned spot block offset) = Stopped T us cap steps (end.Unowned spot block offset)
RunMeans T us cap steps (run.OutOfSteps path) = Stopped T us cap steps (end.OutOfSteps path)
RunMeans T us cap steps (run.HeapFull at len) = AreUnfit T us cap at len ⊎ WantsTooMuch T us cap steps at len
RunMeans T us cap steps (run.Depth path) = Stopped T us cap steps (end.Depth path)
