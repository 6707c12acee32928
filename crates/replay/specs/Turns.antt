-- What one turn of the code does, and what it keeps from turn to turn.
use Rattle.std.specs.Prelude.{◌≡◌, ℕ, ◌<◌, true, false, if◌then◌else◌, List, [], ◌∷◌}
use Rattle.std.specs.Prelude.{Option, Some, None}
use Rattle.target_code.specs.declared.tree.Proc.{Proc}
use Rattle.target_meaning.specs.declared.answer.StepAnswer.{StepAnswer}
use Rattle.target_meaning.specs.declared.answer.StepAnswer.TheVariants as answer
use Rattle.target_meaning.specs.declared.path.Side.{Side}
use Rattle.target_meaning.specs.declared.view.LeafView.{LeafView}
use Rattle.target_meaning.specs.LeftFirst.{has_ended}
use Rattle.target_meaning.specs.Machine as machine
use Rattle.target_meaning.specs.Machine.{Heap, Tree, Answer, move, nothing, has_room}
use Rattle.target_meaning.specs.Runs.{Schedule}
use Rattle.target_meaning.specs.States.{MachineState}
use Rattle.target_meaning.specs.Views.{leaves_of}
use Rattle.replay.specs.declared.answer.ReplayEnd.{ReplayEnd}
use Rattle.replay.specs.declared.answer.ReplayEnd.TheVariants.{Full, BadStep, Depth}
use Rattle.replay.specs.Sights.{passes_at}
use Rattle.replay.specs.Told.{or_else, leaves_told, end_told, here_told, after, told_at, is_full}

abbrev pub depth_told : List Side → List LeafView → Option ReplayEnd
depth_told path views = if passes_at path views then Some (Depth path) else None

-- what is told before the next step is made
abbrev pub before_told : List Proc → ℕ → List Side → Tree (Unit {0}) → Heap → Option ReplayEnd
before_told T made path t h =
    or_else (or_else (leaves_told made (leaves_of T h [] t)) (end_told made (has_ended t))) (depth_told path (leaves_of T h [] t))

-- what the answer to a step of this number tells
abbrev pub answered : ℕ → StepAnswer → Option ReplayEnd
answered at answer.Moved = None
answered at answer.Full = Some (Full at)
answered at answer.NameUsed = Some (BadStep at true)
answered at answer.NoSuchLeaf = Some (BadStep at false)
answered at answer.Ended = Some (BadStep at false)
answered at (answer.Stuck r) = Some (BadStep at false)

-- with something told, a state stays but for whether the machine is full; else the machine's answer led to it
abbrev pub LeadsTo : Answer (Unit {0}) → MachineState → MachineState → Option ReplayEnd → Type 0
LeadsTo a s left None = (a ≡ machine.Moved left.tree left.heap) × (left.full ≡ false)
LeadsTo a s left (Some e) = left ≡ record { tree = s.tree; heap = s.heap; full = is_full e }

-- a turn at a step from one state told this and led to another
pub record Turned (T : List Proc) (made : ℕ) (e : List Side × ℕ) (s left : MachineState) (told : Option ReplayEnd) : Type 0 where
  pub is : here_told T made (e ∷ []) s.tree s.heap ≡ told
  pub leads : LeadsTo (move nothing has_room T s.tree s.heap e.0 e.1) s left told

abbrev pub Turns : List Proc → ℕ → List Side × ℕ → MachineState → MachineState → Option ReplayEnd → Type 0
Turns T made e s left told = s.full ≡ false → Turned T made e s left told

-- what is told where the schedule is over
abbrev pub IsLast : List Proc → ℕ → MachineState → ReplayEnd → Type 0
IsLast T made s end = s.full ≡ false → (here_told T made [] s.tree s.heap ≡ Some end) × (is_full end ≡ false)

-- the first so many steps of a schedule were made, from one state to another, and nothing was told before
pub record Follows (T : List Proc) (es : Schedule) (s : MachineState) (made : ℕ) (now : MachineState) : Type 0 where
  pub reached : after T es s made ≡ machine.Moved now.tree now.heap
  pub room : now.full ≡ false
  pub before : (n : ℕ) → n < made → told_at T es s n ≡ None
