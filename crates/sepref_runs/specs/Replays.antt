-- What `replay` says of an input.
use Rattle.std.specs.Prelude.{◌≡◌, ◌⊎◌, ℕ, List}
use Rattle.nres_core.specs.declared.value.Value.{Value}
use Rattle.replay.specs.declared.answer.ReplayEnd.{ReplayEnd}
use Rattle.replay.specs.declared.answer.ReplayEnd.TheVariants as end
use Rattle.replay_causes.specs.Causes.{HasAnswer, HasCause}
use Rattle.replay_causes.specs.declared.cause.Cause.{Cause}
use Rattle.replay_causes.specs.declared.cause.Cause.TheVariants as cause
use Rattle.sepref_replay.specs.Lines.{answer_text, text_of}
use Rattle.sepref_top.specs.declared.status.Status.TheVariants as calm
use Rattle.sepref_runs.specs.declared.status.RunStatus.{RunStatus}
use Rattle.sepref_runs.specs.declared.status.RunStatus.TheVariants as status

abbrev pub status_of_answer : ReplayEnd → RunStatus
status_of_answer (end.Depth path) = status.Depth
status_of_answer (end.BadStep at used) = status.BadStep
status_of_answer _ = status.Calm calm.Done

abbrev pub status_of_cause : Cause → RunStatus
status_of_cause (cause.NotProgram k) = status.Calm (calm.NotProgram k)
status_of_cause (cause.Syntax q) = status.Calm (calm.Syntax q)
status_of_cause (cause.NoSchedule k) = status.NoSchedule
status_of_cause (cause.Input x f) = status.Calm calm.Input
status_of_cause (cause.HeapFull at len) = status.HeapFull
status_of_cause (cause.NoValue k) = status.NoValue
status_of_cause (cause.Told e vs) = status_of_answer e

-- the text has this cause, in a heap of this capacity, and the status and what is written are those of the cause
pub record Replayed (heap : ℕ) (text : List ℕ) (s : RunStatus) (output : List ℕ) : Type 0 where
  pub cause_is : Cause
  pub has : HasCause text heap cause_is
  pub status_is : s ≡ status_of_cause cause_is
  pub written : output ≡ text_of cause_is

-- status 0: the text is a program with a value for each input and a schedule, and the output is the line of what is told first along the schedule, with the lines of the values that the results represent where the root ended
pub record IsAnswered (heap : ℕ) (text output : List ℕ) : Type 0 where
  pub end_is : ReplayEnd
  pub values : List Value
  pub answer : HasAnswer text heap end_is values
  pub done : status_of_answer end_is ≡ status.Calm calm.Done
  pub written : output ≡ answer_text end_is values

-- an input is told by the status of its cause, unless there was no memory, or a read or a write failed
abbrev pub HasFailed : RunStatus → Type 0
HasFailed (status.Calm calm.Memory) = Unit {0}
HasFailed (status.Calm calm.ReadFault) = Unit {0}
HasFailed (status.Calm calm.WriteFault) = Unit {0}
HasFailed s = ⊥

abbrev pub IsTold : ℕ → List ℕ → RunStatus → Type 0
IsTold heap text s = (c : Cause) → HasCause text heap c → (s ≡ status_of_cause c) ⊎ HasFailed s
