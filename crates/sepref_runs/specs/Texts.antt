-- The bytes that are to be written, and the status of what is told.
use Rattle.std.specs.declared.alloc.AllocError.{AllocError}
use Rattle.std.specs.Prelude.{◌≡◌, ℕ, List, Result, Ok, Err}
use Rattle.execution_input.specs.declared.reading.Unrun.{Unrun}
use Rattle.execution_input.specs.declared.reading.Unrun.TheVariants as unrun
use Rattle.inputs.specs.declared.refusal.InputRefusal.{InputRefusal}
use Rattle.inputs.specs.declared.refusal.InputRefusal.TheVariants as refusal
use Rattle.sepref_top.specs.InputLines.{input_line}
use Rattle.sepref_top.specs.Statuses.{line_of}
use Rattle.sepref_top.specs.declared.status.Status.TheVariants as calm
use Rattle.sepref_runs.specs.declared.status.RunStatus.{RunStatus}
use Rattle.sepref_runs.specs.declared.status.RunStatus.TheVariants as status
use Rattle.sepref_runs.specs.declared.telling.Telling.{Telling}
use Rattle.sepref_runs.specs.declared.telling.Text.{Text}
use Rattle.sepref_runs.specs.declared.telling.Text.TheVariants as text

abbrev pub bytes_of : Text → List ℕ
bytes_of (text.Fixed line) = line.now
bytes_of (text.Made bytes) = bytes.items

-- want of memory is a status too
abbrev pub told_status : Result Telling AllocError → RunStatus
told_status (Ok t) = t.status
told_status (Err e) = status.Calm calm.Memory

-- what is wrong with the value of a name is told
abbrev pub TellsInput : InputRefusal → RunStatus → List ℕ → Type 0
TellsInput (refusal.Refused x f) s output = (s ≡ status.Calm calm.Input) × (output ≡ input_line (x.now, f))
TellsInput refusal.Memory s output = ⊥

-- the line, or the place, at which an input is refused is told
abbrev pub TellsUnrun : Unrun → RunStatus → List ℕ → Type 0
TellsUnrun (unrun.NotProgram k) s output = (s ≡ status.Calm (calm.NotProgram k)) × (output ≡ line_of (calm.NotProgram k))
TellsUnrun (unrun.Syntax q) s output = (s ≡ status.Calm (calm.Syntax q)) × (output ≡ line_of (calm.Syntax q))
TellsUnrun unrun.Memory s output = ⊥
