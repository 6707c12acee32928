-- What `exec` and `run` say of an input, and what they write.
use Rattle.std.specs.Prelude.{◌≡◌, ◌≢◌, ℕ, ◌<◌, ◌≤◌, ◌⊎◌, true, List, length, take, Option, Some, None, Ok, Err}
use Rattle.std.specs.Io.KnownBytes.{Appends, Consumes, IsAtEnd, Keeps}
use Rattle.nres_core.specs.declared.place.Place.{Place}
use Rattle.nres_core.specs.declared.tree.With.{With}
use Rattle.nres_core.specs.declared.value.Value.{Value}
use Rattle.target_code.specs.declared.tree.Program.{Program}
use Rattle.target_text.specs.Refusals.{RefusedAt}
use Rattle.inputs.specs.Inputs.{Fault, program_inputs}
use Rattle.relations.specs.ResultLines.{result_lines}
use Rattle.sep_io.specs.Faults.{Gave}
use Rattle.execution_input.specs.Executions.{HasNoValues, IsExecution, IsNoProgram, IsProgram, NoValuesAt, front_of}
use Rattle.program_run.specs.Ends.{RunMeans}
use Rattle.program_run.specs.declared.end.RunEnd.{RunEnd}
use Rattle.program_run.specs.declared.end.RunEnd.TheVariants as run
use Rattle.run_lines.specs.Lines.{end_text}
use Rattle.sepref_top.specs.InputLines.{input_line}
use Rattle.sepref_top.specs.Making.{IsRunnable, TellsNoProgram}
use Rattle.sepref_top.specs.Outcome.{longest}
use Rattle.sepref_top.specs.Statuses as statuses
use Rattle.sepref_top.specs.declared.making.Runnable.{Runnable}
use Rattle.sepref_top.specs.declared.status.Status.{Status}
use Rattle.sepref_top.specs.declared.status.Status.TheVariants as calm
use Rattle.sepref_top.specs.declared.words.Command.{Command}
use Rattle.sepref_top.specs.declared.words.Command.TheVariants as command
use Rattle.sepref_top.specs.declared.words.Line.{Line}
use Rattle.sepref_runs.specs.Replays.{Replayed}
use Rattle.sepref_runs.specs.declared.status.RunStatus.{RunStatus}
use Rattle.sepref_runs.specs.declared.status.RunStatus.TheVariants as status

-- ---- statuses

abbrev pub code_of : RunStatus → ℕ
code_of (status.Calm s) = statuses.code_of s
code_of status.Stuck = 6
code_of status.OutOfSteps = 7
code_of status.HeapFull = 8
code_of status.Unowned = 10
code_of status.NoValue = 12
code_of status.Depth = 13
code_of status.NoSchedule = 17
code_of status.BadStep = 18

abbrev pub status_of : RunEnd → RunStatus
status_of (run.Values vs) = status.Calm calm.Done
status_of (run.NoValue k) = status.NoValue
status_of (run.Stuck spot reason) = status.Stuck
status_of (run.Unowned spot block offset) = status.Unowned
status_of (run.OutOfSteps path) = status.OutOfSteps
status_of (run.HeapFull at len) = status.HeapFull
status_of (run.Depth path) = status.Depth

-- ---- what is said of a text, in order of test

-- a program was run on values, with the heap and the steps of a command line: its run ended so, and the end is told
pub record Ran (l : Line) (T : Program) (us : List Value) (s : RunStatus) (output : List ℕ) : Type 0 where
  pub end : RunEnd
  pub means : RunMeans T us l.heap l.steps end
  pub status_is : s ≡ status_of end
  pub written : output ≡ end_text end

-- lines give a program's inputs values, on which it was run; or this is wrong with them first, and it is told
pub data Given (l : Line) (T : Program) (ws : List With) : RunStatus → List ℕ → Type 0 where
  on_values : {s : RunStatus} {output : List ℕ} (us : List Value) → program_inputs T.ins ws ≡ Ok us → Ran l T us s output → Given l T ws s output
  bad_input : {output : List ℕ} (fault : Fault) → program_inputs T.ins ws ≡ Err fault → output ≡ input_line fault → Given l T ws (status.Calm calm.Input) output

-- the front is a program, and lines stand behind it; or the front is none, or what stands behind it is no list of lines, and the place is told
pub data Says (l : Line) (text : List ℕ) : RunStatus → List ℕ → Type 0 where
  no_program : {output : List ℕ} (k : ℕ) → RefusedAt (front_of true text) k → output ≡ statuses.line_of (calm.NotProgram k) → Says l text (status.Calm (calm.NotProgram k)) output
  no_lines : {output : List ℕ} (q : Place) → NoValuesAt text q → output ≡ statuses.line_of (calm.Syntax q) → Says l text (status.Calm (calm.Syntax q)) output
  execution : {s : RunStatus} {output : List ℕ} (T : Program) (ws : List With) → IsExecution text T ws → Given l T ws s output → Says l text s output

-- the text reads as a typed specification, and a program that is right for it was run on the values behind it; or no program is given for it, and why is told
pub data SaysRun (l : Line) (text : List ℕ) : RunStatus → List ℕ → Type 0 where
  no_spec_program : {output : List ℕ} (s : Status) → TellsNoProgram text s output → SaysRun l text (status.Calm s) output
  with_program : {s : RunStatus} {output : List ℕ} (x : Runnable) → IsRunnable text x → Given l x.program x.withs s output → SaysRun l text s output

-- a command that runs or follows programs says this of a text
abbrev pub SaysAs : Command → Line → List ℕ → RunStatus → List ℕ → Type 0
SaysAs command.Exec l text s output = Says l text s output
SaysAs command.Replay l text s output = Replayed l.heap text s output
SaysAs command.Run l text s output = SaysRun l text s output
SaysAs _ l text s output = ⊥

-- ---- what is due, and what went out

-- what is due to a command line, by what the source gave
pub data Due (l : Line) (old new : Option (List ℕ)) : RunStatus → List ℕ → Type 0 where
  of_text : {s : RunStatus} {output : List ℕ} (text : List ℕ) → Consumes old new text → IsAtEnd new → SaysAs l.command l text s output → Due l old new s output
  too_long : {output : List ℕ} → output ≡ statuses.line_of calm.TooLong → Due l old new (status.Calm calm.TooLong) output
  read_fault : {output : List ℕ} → output ≡ statuses.line_of calm.ReadFault → Due l old new (status.Calm calm.ReadFault) output

-- what went to the sink: what was due, whole; or, where a write failed, a front of it; or, for want of memory, nothing
pub data Wrote (due : RunStatus → List ℕ → Type 0) (before after : Option (List ℕ)) : RunStatus → Type 0 where
  whole : {s : RunStatus} (output : List ℕ) → due s output → Appends before after output → Wrote due before after s
  lost : {s : RunStatus} (output : List ℕ) (n : ℕ) → due s output → Appends before after (take n output) → Wrote due before after (status.Calm calm.WriteFault)
  nothing : Keeps before after → Wrote due before after (status.Calm calm.Memory)

-- ---- status 0

-- the lines of the values that the results of the run on the inputs represent
pub record HasResults (l : Line) (text output : List ℕ) : Type 0 where
  pub program : Program
  pub withs : List With
  pub reads : IsExecution text program withs
  pub values : List Value
  pub given : program_inputs program.ins withs ≡ Ok values
  pub results : List Value
  pub means : RunMeans program values l.heap l.steps (run.Values results)
  pub written : output ≡ result_lines results

-- the text reads as a typed specification with a value for each parameter, and a program that is right for it was run on these: the output is the lines of the
-- values that its results represent
pub record HasSpecResults (l : Line) (text output : List ℕ) : Type 0 where
  pub found : Runnable
  pub right : IsRunnable text found
  pub values : List Value
  pub given : program_inputs found.program.ins found.withs ≡ Ok values
  pub results : List Value
  pub means : RunMeans found.program values l.heap l.steps (run.Values results)
  pub written : output ≡ result_lines results

-- what the source gave, up to its end, and what went to the sink meet a condition
abbrev pub Went : (List ℕ → List ℕ → Type 0) → Option (List ℕ) → Option (List ℕ) → Option (List ℕ) → Option (List ℕ) → Type 0
Went holds old new before after = (text : List ℕ) × (output : List ℕ) × Consumes old new text × IsAtEnd new × Appends before after output × holds text output

-- ---- how much was given

-- this is the answer, unless the write of its line failed
abbrev pub UnlessLost : RunStatus → RunStatus → Type 0
UnlessLost wanted result = (result ≡ wanted) ⊎ (result ≡ status.Calm calm.WriteFault)

-- the source gave so many bytes, and the answer says whether they are too many
abbrev pub TellsLength : RunStatus → Option (List ℕ) → Option (List ℕ) → Type 0
TellsLength result old new = (n : ℕ) × Gave old new n × (longest < n → UnlessLost (status.Calm calm.TooLong) result) × (result ≡ status.Calm calm.TooLong → longest < n)
