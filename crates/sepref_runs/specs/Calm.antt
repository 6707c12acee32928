-- What is said where no program is run: all that the call that waits for nobody says.
use Rattle.std.specs.Prelude.{◌≡◌, ℕ, ◌≤◌, Bool, true, false, List, length, Option, Some, None}
use Rattle.sep_io.specs.Faults.{Rose}
use Rattle.sepref_top.specs.Answers.{Answers, Due, IsCanonical, IsEvaluation, IsSynthesis, ToldBy, Went}
use Rattle.sepref_top.specs.Outcome.{AnswersUnlessLost, TellsLength, Wrote, longest}
use Rattle.sepref_top.specs.Statuses.{TellsText}
use Rattle.sepref_top.specs.Verifications.{IsVerified}
use Rattle.sepref_top.specs.declared.status.Status.{Status}
use Rattle.sepref_top.specs.declared.status.Status.TheVariants as calm
use Rattle.sepref_top.specs.declared.words.Command.{Command}
use Rattle.sepref_top.specs.declared.words.Command.TheVariants as command
use Rattle.sepref_top.specs.declared.words.Line.{Line}
use Rattle.sepref_runs.specs.declared.status.RunStatus.{RunStatus}
use Rattle.sepref_runs.specs.declared.status.RunStatus.TheVariants as run

-- a command runs programs, or follows a schedule of one
abbrev pub runs : Command → Bool
runs command.Exec = true
runs command.Run = true
runs command.Replay = true
runs _ = false

-- the words are no command line, or one of another command
abbrev pub RunsNothing : Option Line → Type 0
RunsNothing o = (l : Line) → o ≡ Some l → runs l.command ≡ false

-- the command line of such a command that words are; none where they are none
pub record IsRun (o : Option Line) (l : Line) : Type 0 where
  pub line : o ≡ Some l
  pub command : runs l.command ≡ true

abbrev pub IsRunLine : Option Line → Option Line → Type 0
IsRunLine None o = RunsNothing o
IsRunLine (Some l) o = IsRun o l

-- of what the words ask for, of what the source had left before and after, of what the sink had, of the counts of faults, and of source and sink that stayed as they were
pub record IsCalm (o : Option Line) (old new before after : Option (List ℕ)) (reads reads_after writes writes_after : ℕ) (Unread Unwritten : Type 0) (result : RunStatus) : Type 0 where
  pub status : Status
  pub same : result ≡ run.Calm status
  pub usage : status ≡ calm.Usage → o ≡ None
  pub no_command : o ≡ None → AnswersUnlessLost calm.Usage status
  pub unread : o ≡ None → Unread
  pub counted : TellsLength status old new
  pub read_fault : status ≡ calm.ReadFault → Rose reads reads_after
  pub write_fault : status ≡ calm.WriteFault → Rose writes writes_after
  pub sound : (l : Line) → o ≡ Some l → l.command ≡ command.Synth → status ≡ calm.Done → Went IsSynthesis old new before after
  pub canonical : (l : Line) → o ≡ Some l → l.command ≡ command.Check → status ≡ calm.Done → Went IsCanonical old new before after
  pub evaluated : (l : Line) → o ≡ Some l → l.command ≡ command.Eval → status ≡ calm.Done → Went (IsEvaluation l.turns) old new before after
  pub verified : (l : Line) → o ≡ Some l → l.command ≡ command.Verify → status ≡ calm.Done → Went IsVerified old new before after
  pub tells : (l : Line) → TellsText status → o ≡ Some l → Went (λ text output. Answers l text status output) old new before after
  pub told : (text : List ℕ) (l : Line) → old ≡ Some text → length text ≤ longest → o ≡ Some l → ToldBy l text status
  pub wrote : Wrote (Due o old new) status before after
  pub unwritten : status ≡ calm.Memory → Unwritten
