-- What is answered of a sound program on values on which nothing can fail.
use Rattle.std.specs.Prelude.{◌≡◌, false, List}
use Rattle.nres_core.specs.declared.value.Value.{Value}
use Rattle.target_code.specs.declared.tree.Program.{Program}
use Rattle.target_meaning.specs.Leaf.{Stack}
use Rattle.target_meaning.specs.Machine.{Heap, Tree, Leaf}
use Rattle.target_meaning.specs.Piece.{Piece}
use Rattle.target_meaning.specs.Runs.{Schedule, bare}
use Rattle.target_meaning.specs.States.{MachineState}
use Rattle.soundness.specs.Behaviour.{Behaviour}
use Rattle.soundness.specs.Good.{Good}
use Rattle.soundness.specs.Sound.{IsSoundFor}
use Rattle.soundness.specs.Start.{Start}
use Rattle.replay.specs.declared.answer.ReplayEnd.{ReplayEnd}
use Rattle.replay.specs.declared.answer.ReplayEnd.TheVariants.{Race, Stuck, Full, End, Open, BadStep, Depth}
use Rattle.replay.specs.Told.{Replays}

-- the state at a start
abbrev pub begun : Stack → Heap → MachineState
begun s h = record { tree = Leaf tt s; heap = h; full = false }

-- an answer tells no race and no stuck leaf, and with an end of the root the state is good
abbrev pub IsCalmEnd : Behaviour → Program → List Value → List Piece → MachineState → ReplayEnd → Type 0
IsCalmEnd m T us pieces left (Race after p q) = ⊥
IsCalmEnd m T us pieces left (Stuck after p proc line why) = ⊥
IsCalmEnd m T us pieces left (End at) = (t : Tree Piece) × (bare t ≡ left.tree) × Good m T us pieces t left.heap
IsCalmEnd m T us pieces left (Full at) = Unit {0}
IsCalmEnd m T us pieces left (Open steps) = Unit {0}
IsCalmEnd m T us pieces left (BadStep at used) = Unit {0}
IsCalmEnd m T us pieces left (Depth path) = Unit {0}

abbrev pub SoundIsCalm : Behaviour → Type 0
SoundIsCalm m =
    (T : Program) → IsSoundFor m T
    → (us : List Value) (s : Stack) (h : Heap) (start : Start T us s h) → ¬ m.can_fail us
    → (es : Schedule) (end : ReplayEnd) (left : MachineState) → Replays T.procs es (begun s h) end left
    → IsCalmEnd m T us start.pieces left end
