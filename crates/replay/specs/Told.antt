-- What a replay answers: what is told first, over the states that the first steps of the schedule reach.
use Rattle.std.specs.Prelude.{◌≡◌, ℕ, suc, ◌<◌, Bool, true, false, if◌then◌else◌, List, [], ◌∷◌, map, take, drop}
use Rattle.std.specs.Prelude.{Option, Some, None}
use Rattle.target_code.specs.declared.tree.Proc.{Proc}
use Rattle.target_meaning.specs.declared.answer.Reason.{Reason}
use Rattle.target_meaning.specs.declared.path.Side.{Side}
use Rattle.target_meaning.specs.declared.view.LeafView.{LeafView}
use Rattle.target_meaning.specs.LeftFirst.{has_ended}
use Rattle.target_meaning.specs.Machine as machine
use Rattle.target_meaning.specs.Machine.{Heap, Tree, Answer, move, nothing, has_room}
use Rattle.target_meaning.specs.Runs.{Schedule, HasMoved, reach}
use Rattle.target_meaning.specs.States.{MachineState}
use Rattle.target_meaning.specs.Views.{leaves_of}
use Rattle.replay.specs.declared.answer.ReplayEnd.{ReplayEnd}
use Rattle.replay.specs.declared.answer.ReplayEnd.TheVariants.{Race, Stuck, Full, End, Open, BadStep, Depth}
use Rattle.replay.specs.declared.schedule.Move.{Move}
use Rattle.replay.specs.Sights.{first_race, first_stuck, passes_at}

-- the steps, as the machine takes them
abbrev pub steps_of : List Move → Schedule
steps_of moves = map (λ m. (m.path, m.name)) moves

-- the first of two answers
abbrev pub or_else : Option ReplayEnd → Option ReplayEnd → Option ReplayEnd
or_else None other = other
or_else (Some e) other = Some e

-- a pair that races after so many steps
abbrev pub race_told : ℕ → Option (List Side × List Side) → Option ReplayEnd
race_told made None = None
race_told made (Some p) = Some (Race made p.0 p.1)

-- a leaf that is stuck after so many steps
abbrev pub stuck_told : ℕ → Option (LeafView × Reason) → Option ReplayEnd
stuck_told made None = None
stuck_told made (Some s) = Some (Stuck made s.0.path s.0.proc s.0.line s.1)

-- the end of the root
abbrev pub end_told : ℕ → Bool → Option ReplayEnd
end_told made true = Some (End made)
end_told made false = None

-- what the leaves tell after so many steps: a race comes before a stuck leaf
abbrev pub leaves_told : ℕ → List LeafView → Option ReplayEnd
leaves_told made views = or_else (race_told made (first_race views)) (stuck_told made (first_stuck views))

-- what the machine's answer to a step of this number tells
abbrev pub answer_told : ℕ → Answer (Unit {0}) → Option ReplayEnd
answer_told at (machine.Moved t h) = None
answer_told at (machine.Stuck r) = None
answer_told at machine.Full = Some (Full at)
answer_told at machine.NoSuchLeaf = Some (BadStep at false)
answer_told at machine.NameUsed = Some (BadStep at true)

-- what the next step tells, where so many were made: that the schedule has no further one, that it would pass a limit of depth, or the machine's answer to it
abbrev pub next_told : List Proc → ℕ → List LeafView → Tree (Unit {0}) → Heap → Schedule → Option ReplayEnd
next_told T made views t h [] = Some (Open made)
next_told T made views t h (e ∷ es) =
    if passes_at e.0 views then Some (Depth e.0) else answer_told (suc made) (move nothing has_room T t h e.0 e.1)

-- what is told in a state that so many steps reached, with this left of the schedule: by the leaves, by the end of the root, by the next step
abbrev pub here_told : List Proc → ℕ → Schedule → Tree (Unit {0}) → Heap → Option ReplayEnd
here_told T made rest t h =
    or_else (leaves_told made (leaves_of T h [] t)) (or_else (end_told made (has_ended t)) (next_told T made (leaves_of T h [] t) t h rest))

-- the same, where the steps reached a state
abbrev pub reached_told : List Proc → ℕ → Schedule → Answer (Unit {0}) → Option ReplayEnd
reached_told T made rest (machine.Moved t h) = here_told T made rest t h
reached_told T made rest _ = None

-- what the machine's run on the first so many steps of a schedule answers
abbrev pub after : List Proc → Schedule → MachineState → ℕ → Answer (Unit {0})
after T es s made = reach nothing has_room T (take made es) s.tree s.heap

-- what is told once so many steps of a schedule were made
unfoldable pub told_at : List Proc → Schedule → MachineState → ℕ → Option ReplayEnd
told_at T es s made = reached_told T made (drop made es) (after T es s made)

-- whether the answer is that a step made the machine full
abbrev pub is_full : ReplayEnd → Bool
is_full (Full at) = true
is_full _ = false

-- a state that the first so many steps of a schedule reach
abbrev pub IsAfter : List Proc → Schedule → MachineState → ℕ → Bool → MachineState → Type 0
IsAfter T es s made full left = HasMoved (after T es s made) (λ t h. left ≡ record { tree = t; heap = h; full = full })

-- a replay from one state ends with this answer and in another state: the answer is what is told at the least number of steps at which something is told, and the state is the one that these steps reach
pub record Replays (T : List Proc) (es : Schedule) (s : MachineState) (end : ReplayEnd) (left : MachineState) : Type 0 where
  pub steps : ℕ
  pub told : told_at T es s steps ≡ Some end
  pub before : (n : ℕ) → n < steps → told_at T es s n ≡ None
  pub reached : IsAfter T es s steps (is_full end) left
