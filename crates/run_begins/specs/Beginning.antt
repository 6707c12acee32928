-- What a run begins with, and inputs that do not fit.
use Rattle.std.specs.Prelude.{◌≡◌, ℕ, ◌+◌, ◌<◌, ◌≤◌, ◌^◌, ◌⊎◌, List, [], ◌∷◌, ◌++◌, length, Ok}
use Rattle.nres_core.specs.declared.tree.With.{With}
use Rattle.nres_core.specs.declared.value.Value.{Value}
use Rattle.target_code.specs.Formed.{Formed}
use Rattle.target_code.specs.declared.tree.Program.{Program}
use Rattle.target_meaning.specs.Leaf.{Run, begin}
use Rattle.target_meaning.specs.Machine.{Heap, Never}
use Rattle.target_meaning.specs.Piece.{Holds}
use Rattle.target_meaning.specs.Stacks.{proc_at}
use Rattle.branch_exec.specs.Branches.{Names}
use Rattle.branch_exec.specs.LeftRuns.{Fresh}
use Rattle.branch_exec.specs.Stores.{Kept}
use Rattle.inputs.specs.Inputs.{program_inputs}
use Rattle.relations.specs.Images.{Image}
use Rattle.relations.specs.Values.{live}
use Rattle.image_laws.specs.Laws.{IsOfWords, IsSmallValue}
use Rattle.run_inputs.specs.Placing.{AllFit, AllPut, StopsAt}
use Rattle.run_stores.specs.Rows.{IsEmpty, IsInRow}
use Rattle.soundness.specs.Start.{AreImages, BeginFromOne, blocks_in, reps_of}

-- the numbers of these values are words, and they have fewer than 2^32 elements
abbrev pub AreHeld : List Value → Type 0
AreHeld [] = Unit {0}
AreHeld (x ∷ xs) = (IsOfWords x × IsSmallValue x) × AreHeld xs

-- a program is at its beginning on these values, with these argument registers, in a heap of this capacity whose blocks have names from 1 on; what a store holds is what is live there
pub record HasBegun (T : Program) (us : List Value) (cap : ℕ) (regs : List ℕ) (s : Kept) : Type 0 where
  pub heap : Heap
  pub begins : BeginFromOne T us cap (Run (begin (proc_at T.procs 0) regs) []) heap
  pub live_is_held : s.top ≡ live heap
  pub holds : Holds s.top heap
  pub capacity : s.cap ≡ cap
  pub claimed : heap.claimed ≡ s.walked
  pub new : (y : ℕ) → s.walked < y → heap.cells y ≡ Never

-- of blocks that are claimed one after the other, where so many words are claimed before, the first that does not fit the capacity: how many words were claimed before it, and its length
abbrev pub FirstPast : ℕ → ℕ → List (List ℕ) → ℕ → ℕ → Type 0
FirstPast cap claimed [] at len = ⊥
FirstPast cap claimed (b ∷ bs) at len =
    ((cap < claimed + 1 + length b) × (at ≡ claimed) × (len ≡ length b)) ⊎ ((claimed + 1 + length b ≤ cap) × FirstPast cap (claimed + 1 + length b) bs at len)

-- the inputs do not fit a heap of this capacity
pub record AreUnfit (T : Program) (us : List Value) (cap at len : ℕ) : Type 0 where
  pub images : List Image
  pub are_images : AreImages (reps_of T.ins) us images
  pub past : FirstPast cap 0 (blocks_in images) at len

abbrev pub GivenInputsFit : Type 0
GivenInputsFit = (T : Program) (ws : List With) (us : List Value) → Formed T → program_inputs T.ins ws ≡ Ok us → AreHeld us → AllFit T.ins us

abbrev pub PlacedInputsBegin : Type 0
PlacedInputsBegin =
    (T : Program) (us : List Value) (cap : ℕ) (regs : List ℕ) (s t : Kept) → Formed T → AreHeld us → cap < 2 ^ 64 → IsEmpty s cap
    → AllPut T.ins us s regs t → IsInRow 1 t.drawn t.walked → t.walked ≤ t.cap → HasBegun T us cap regs t

abbrev pub LaterNamesAreNew : Type 0
LaterNamesAreNew =
    (T : Program) (us : List Value) (cap : ℕ) (regs : List ℕ) (s t : Kept) (names : Names) (begun : HasBegun T us cap regs s) → IsInRow 1 s.drawn s.walked
    → t.drawn ≡ s.drawn ++ names → IsInRow 1 t.drawn t.walked → t.walked ≤ t.cap → t.cap ≡ cap → Fresh begun.heap names

abbrev pub UnplacedInputsAreUnfit : Type 0
UnplacedInputsAreUnfit =
    (T : Program) (us : List Value) (cap : ℕ) (s t : Kept) (at len : ℕ) → AllFit T.ins us → IsEmpty s cap → StopsAt T.ins us s t at len
    → IsInRow 1 t.drawn t.walked → AreUnfit T us cap at len
