-- What an input of `replay` is, and what each answer to it tells. In order of test: the program, the values, the schedule, the inputs that the values give, whether these fit the heap, and then the replay.
use Rattle.std.specs.Prelude.{◌≡◌, ℕ, ◌+◌, ◌≤◌, List, [], length, Some, Ok, Err}
use Rattle.std.specs.List.{AllByRecursion}
use Rattle.target_code.specs.Formed.{Formed}
use Rattle.target_code.specs.declared.tree.Program.{Program}
use Rattle.target_lines.specs.Programs.{program_text}
use Rattle.target_text.specs.Refusals.{RefusedAt as ProgramRefusedAt}
use Rattle.target_meaning.specs.Leaf.{Stack}
use Rattle.target_meaning.specs.Machine.{Heap}
use Rattle.target_meaning.specs.States.{MachineState, root_results}
use Rattle.nres_core.specs.Texts.{WithText}
use Rattle.nres_core.specs.declared.place.Place.{Place}
use Rattle.nres_core.specs.declared.tree.With.{With}
use Rattle.nres_core.specs.declared.value.Value.{Value}
use Rattle.nres_syntax.specs.Refusals.{ValuesRefusedAt}
use Rattle.inputs.specs.Inputs.{Fault, program_inputs}
use Rattle.relations.specs.Values.{live}
use Rattle.soundness.specs.Behaviour.{Behaviour}
use Rattle.soundness.specs.Sound.{IsSoundFor}
use Rattle.run_begins.specs.Beginning.{AreUnfit}
use Rattle.run_results.specs.Results.{AllShow, FirstNone}
use Rattle.replay.specs.declared.answer.ReplayEnd.{ReplayEnd}
use Rattle.replay.specs.declared.answer.ReplayEnd.TheVariants as end
use Rattle.replay.specs.declared.schedule.Move.{Move}
use Rattle.replay.specs.Schedules.{HasWord, RefusedAt, most_lines, schedule_text}
use Rattle.replay.specs.Told.{Replays, steps_of}
use Rattle.replay_lines.specs.Inputs.{program_part, schedule_line, schedule_part, values_line, values_part}
use Rattle.replay_lines.specs.Lines as lines
use Rattle.state_values.specs.Beginning.{IsBegun}
use Rattle.replay_causes.specs.declared.cause.Cause.{Cause}
use Rattle.replay_causes.specs.declared.cause.Cause.TheVariants as cause

-- ---- what an input is

-- the front is the text of a formed program
pub record IsProgram (text : List ℕ) (t : Program) : Type 0 where
  pub formed : Formed t
  pub is_text : program_part text ≡ program_text t

-- and behind it stands a list of values
pub record HasValues (text : List ℕ) (t : Program) (ws : List With) : Type 0 where
  pub program : IsProgram text t
  pub values : WithText (values_line text) (values_part text) ws

-- and behind these a schedule of at most 20,000 steps
pub record IsReplay (text : List ℕ) (t : Program) (ws : List With) (es : List Move) : Type 0 where
  pub front : HasValues text t ws
  pub schedule : schedule_part text ≡ schedule_text es
  pub few : length es ≤ most_lines
  pub words : AllByRecursion HasWord es

-- ---- what it is not

-- the front is a program, and this is the first place behind it at which no list of values goes on
pub record NoValuesAt (text : List ℕ) (q : Place) : Type 0 where
  pub tree : Program
  pub program : IsProgram text tree
  pub refused : ValuesRefusedAt (values_line text) (values_part text) q
  pub none : (ws : List With) → ¬ WithText (values_line text) (values_part text) ws

-- the front is a program with values, and this line of the input is none of a schedule, or is the 20,001st
pub record NoScheduleAt (text : List ℕ) (k : ℕ) : Type 0 where
  pub tree : Program
  pub withs : List With
  pub front : HasValues text tree withs
  pub refused : RefusedAt (schedule_part text) (schedule_line text) k

-- all parts are there, and this is wrong first with the values
pub record HasFault (text : List ℕ) (f : Fault) : Type 0 where
  pub tree : Program
  pub withs : List With
  pub steps : List Move
  pub reads : IsReplay text tree withs steps
  pub given : program_inputs tree.ins withs ≡ Err f

-- all parts are there, with a value for each input
pub record HasInputs (text : List ℕ) (t : Program) (us : List Value) (es : List Move) : Type 0 where
  pub withs : List With
  pub reads : IsReplay text t withs es
  pub given : program_inputs t.ins withs ≡ Ok us

-- and a block of these does not fit: so many words are claimed before it, and it has so many
pub record HasUnfit (text : List ℕ) (cap at len : ℕ) : Type 0 where
  pub tree : Program
  pub values : List Value
  pub steps : List Move
  pub inputs : HasInputs text tree values steps
  pub unfit : AreUnfit tree values cap at len

-- ---- the replay of an input

-- the input was replayed from the beginning of its program on its values, as their images in a heap of this capacity, whose blocks have names from 1 on; and this is the answer
pub record IsReplayed (text : List ℕ) (cap : ℕ) (e : ReplayEnd) : Type 0 where
  pub tree : Program
  pub values : List Value
  pub steps : List Move
  pub inputs : HasInputs text tree values steps
  pub beginning : MachineState
  pub begins : IsBegun tree values cap beginning
  pub left : MachineState
  pub replays : Replays tree.procs (steps_of steps) beginning e left

-- the root ended, and this result, counted from 1, is the first that represents no value
pub record HasNoValue (text : List ℕ) (cap k : ℕ) : Type 0 where
  pub at : ℕ
  pub replayed : IsReplayed text cap (end.End at)
  pub regs : List ℕ
  pub ended : root_results replayed.left.tree ≡ Some regs
  pub number : ℕ
  pub none : FirstNone (live replayed.left.heap) replayed.tree.outs regs number
  pub is : k ≡ number + 1

-- the values that go with an answer: with the end of the root those that its results represent, else none
abbrev pub HasResults : Program → MachineState → List Value → ReplayEnd → Type 0
HasResults t left vs (end.End at) = (regs : List ℕ) × (root_results left.tree ≡ Some regs) × AllShow (live left.heap) t.outs vs regs
HasResults t left vs _ = vs ≡ []

-- this was answered, with these values
pub record HasAnswer (text : List ℕ) (cap : ℕ) (e : ReplayEnd) (vs : List Value) : Type 0 where
  pub replayed : IsReplayed text cap e
  pub results : HasResults replayed.tree replayed.left vs e

-- ---- causes

abbrev pub HasCause : List ℕ → ℕ → Cause → Type 0
HasCause text cap (cause.NotProgram k) = ProgramRefusedAt (program_part text) k
HasCause text cap (cause.Syntax q) = NoValuesAt text q
HasCause text cap (cause.NoSchedule k) = NoScheduleAt text k
HasCause text cap (cause.Input x f) = HasFault text (x, f)
HasCause text cap (cause.HeapFull at len) = HasUnfit text cap at len
HasCause text cap (cause.NoValue k) = HasNoValue text cap k
HasCause text cap (cause.Told e vs) = HasAnswer text cap e vs

-- the number of the status
abbrev pub code_of : Cause → ℕ
code_of (cause.NotProgram k) = 9
code_of (cause.Syntax q) = 2
code_of (cause.NoSchedule k) = 17
code_of (cause.Input x f) = 5
code_of (cause.HeapFull at len) = 8
code_of (cause.NoValue k) = 12
code_of (cause.Told e vs) = lines.code_of e

-- a cause without the values of results
abbrev pub bare : Cause → Cause
bare (cause.Told e vs) = cause.Told e []
bare c = c

-- two causes of one input are the same, but for these
abbrev pub OneCause : Type 0
OneCause = (text : List ℕ) (cap : ℕ) (c d : Cause) → HasCause text cap c → HasCause text cap d → bare c ≡ bare d

-- ---- of sound programs

-- neither a race nor a stuck leaf is told
abbrev pub IsNoFault : ReplayEnd → Type 0
IsNoFault (end.Race after p q) = ⊥
IsNoFault (end.Stuck after path proc line why) = ⊥
IsNoFault (end.End at) = Unit {0}
IsNoFault (end.Full at) = Unit {0}
IsNoFault (end.Open steps) = Unit {0}
IsNoFault (end.BadStep at used) = Unit {0}
IsNoFault (end.Depth path) = Unit {0}

abbrev pub SoundIsTold : Behaviour → Type 0
SoundIsTold m = (text : List ℕ) (cap : ℕ) (e : ReplayEnd) (r : IsReplayed text cap e) → IsSoundFor m r.tree → ¬ m.can_fail r.values → IsNoFault e
