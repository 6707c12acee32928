-- The state in which a program begins on values.
use Rattle.std.specs.Prelude.{◌≡◌, ℕ, false, List}
use Rattle.nres_core.specs.declared.value.Value.{Value}
use Rattle.target_code.specs.declared.tree.Program.{Program}
use Rattle.target_meaning.specs.Leaf.{Stack}
use Rattle.target_meaning.specs.Machine.{Heap, Leaf}
use Rattle.target_meaning.specs.States.{MachineState}
use Rattle.soundness.specs.Start.{BeginFromOne}
use Rattle.run_begins.specs.Beginning.{AreUnfit}

-- a state is at the beginning of a program on values, as their images, in a heap of this capacity; blocks have names from 1 on
pub record IsBegun (T : Program) (us : List Value) (cap : ℕ) (m : MachineState) : Type 0 where
  pub stack : Stack
  pub heap : Heap
  pub begins : BeginFromOne T us cap stack heap
  pub is : m ≡ record { tree = Leaf tt stack; heap = heap; full = false }

abbrev pub OneBeginning : Type 0
OneBeginning =
    (T : Program) (us : List Value) (cap : ℕ) (s r : Stack) (h k : Heap) → BeginFromOne T us cap s h → BeginFromOne T us cap r k → (s ≡ r) × (h ≡ k)

-- what does not fit begins nothing, and is told in one way
pub record UnfitBeginsNot : Type 0 where
  pub none : (T : Program) (us : List Value) (cap at len : ℕ) (s : Stack) (h : Heap) → AreUnfit T us cap at len → BeginFromOne T us cap s h → ⊥
  pub one : (T : Program) (us : List Value) (cap at len to more : ℕ) → AreUnfit T us cap at len → AreUnfit T us cap to more → (at ≡ to) × (len ≡ more)
