-- What each status tells of the text that was read, and of what was written for it.
use Rattle.std.specs.declared.alloc.AllocError.{AllocError}
use Rattle.std.specs.Prelude.{◌≡◌, ◌⊎◌, ℕ, true, List, Option, Some, None, Result, Ok, Err, IfOk}
use Rattle.std.specs.Io.KnownBytes.{Appends, Consumes, IsAtEnd}
use Rattle.target_code.specs.declared.tree.Program.{Program}
use Rattle.target_text.specs.Refusals.{RefusedAt as LineRefused}
use Rattle.nres_core.specs.Texts.{SpecText}
use Rattle.nres_rules.specs.Types.{Wrong, refusal_of}
use Rattle.nres_core.specs.declared.place.Place.{Place}
use Rattle.nres_core.specs.declared.tree.Spec.{Spec}
use Rattle.nres_core.specs.declared.tree.With.{With}
use Rattle.nres_syntax.specs.Refusals.{RefusedAt, RefusedDeep}
use Rattle.nres_core.specs.declared.value.Value.{Value}
use Rattle.inputs.specs.Inputs.{inputs}
use Rattle.sepref_top.specs.Evaluation.{Evaluated, GivesLines}
use Rattle.execution_input.specs.Executions.{HasNoValues, IsExecution, IsNoProgram, IsProgram, NoValuesAt, front_of}
use Rattle.sepref_top.specs.Statuses.{HasFailed, TellsLine, TellsPlace, TellsText, line_of}
use Rattle.sepref_top.specs.Synthesis.{Canonical, Checked, Printed, Translated}
use Rattle.sepref_top.specs.TypeLines.{type_line}
use Rattle.sepref_top.specs.Texts.{bytes_of}
use Rattle.sepref_top.specs.Verifications.{AnswersVerification, ToldVerification}
use Rattle.sepref_top.specs.declared.answer.Answer.{Answer}
use Rattle.sepref_top.specs.declared.status.Status.{Status}
use Rattle.sepref_top.specs.declared.status.Status.TheVariants as status
use Rattle.sepref_top.specs.declared.words.Command.{Command}
use Rattle.sepref_top.specs.declared.words.Command.TheVariants as command
use Rattle.sepref_top.specs.declared.words.Line.{Line}

-- ---- of texts of specifications

-- what a command says of a typed specification and the lines behind it, with the options of a command line
abbrev pub Serves : Command → Line → Spec → List With → Status → List ℕ → Type 0
Serves command.Check l p ws s output = Checked p s output
Serves command.Synth l p ws s output = Translated p s output
Serves command.Eval l p ws s output = Evaluated l.turns p ws s output
Serves c l p ws status.NotYet output = output ≡ line_of status.NotYet
Serves c l p ws s output = ⊥

-- the text is that of a typed specification and of lines, of which this holds
pub record Typed (holds_of : Spec → List With → Type 0) (text : List ℕ) : Type 0 where
  pub spec : Spec
  pub withs : List With
  pub reads : SpecText text spec withs
  pub typed : refusal_of spec ≡ None
  pub holds : holds_of spec withs

-- the text is that of a specification that is not typed, and this is the rule that is broken first
pub record HasFault (text : List ℕ) (w : Wrong) : Type 0 where
  pub spec : Spec
  pub withs : List With
  pub reads : SpecText text spec withs
  pub first : refusal_of spec ≡ Some w

abbrev pub IsNone : List ℕ → Type 0
IsNone text = (p : Spec) (ws : List With) → ¬ SpecText text p ws

-- the text is that of no specification: this is the first place at which none can go on, and it is told
pub record StopsAt (text : List ℕ) (q : Place) (output : List ℕ) : Type 0 where
  pub none : IsNone text
  pub refused : RefusedAt text q
  pub written : output ≡ line_of (status.Syntax q)

-- the same, where a limit alone is at fault
pub record StopsDeep (text : List ℕ) (q : Place) (output : List ℕ) : Type 0 where
  pub none : IsNone text
  pub refused : RefusedDeep text q
  pub written : output ≡ line_of (status.TooDeep q)

-- the rule that is broken first is told
pub record TellsFault (text output : List ℕ) : Type 0 where
  pub fault : Wrong
  pub is_first : HasFault text fault
  pub written : output ≡ type_line fault

-- a status and an output tell what a command says of a text of a specification
abbrev pub AnswersSpec : Command → Line → List ℕ → Status → List ℕ → Type 0
AnswersSpec c l text (status.Syntax q) output = StopsAt text q output
AnswersSpec c l text (status.TooDeep q) output = StopsDeep text q output
AnswersSpec c l text status.Type_ output = TellsFault text output
AnswersSpec c l text s output = Typed (λ p ws. Serves c l p ws s output) text

-- ---- of programs with values

-- what stands before the values is the text of no program, and this line of it is refused
pub record NoProgramAt (text : List ℕ) (k : ℕ) (output : List ℕ) : Type 0 where
  pub refused : LineRefused (front_of true text) k
  pub written : output ≡ line_of (status.NotProgram k)

-- it is one, and the rest is no list of values
pub record ValuesStopAt (text : List ℕ) (q : Place) (output : List ℕ) : Type 0 where
  pub refused : NoValuesAt text q
  pub written : output ≡ line_of (status.Syntax q)

-- it is one, with values
pub record NotExecuted (text output : List ℕ) : Type 0 where
  pub program : Program
  pub withs : List With
  pub reads : IsExecution text program withs
  pub written : output ≡ line_of status.NotYet

abbrev pub AnswersExecution : List ℕ → Status → List ℕ → Type 0
AnswersExecution text (status.NotProgram k) output = NoProgramAt text k output
AnswersExecution text (status.Syntax q) output = ValuesStopAt text q output
AnswersExecution text status.NotYet output = NotExecuted text output
AnswersExecution text s output = ⊥

-- ---- by command

abbrev pub AnswersAs : Command → Line → List ℕ → Status → List ℕ → Type 0
AnswersAs command.Exec l text s output = AnswersExecution text s output
AnswersAs command.Replay l text s output = (s ≡ status.NotYet) × (output ≡ line_of status.NotYet)
AnswersAs command.Verify l text s output = AnswersVerification text s output
AnswersAs c l text s output = AnswersSpec c l text s output

-- what a command line says of a text
abbrev pub Answers : Line → List ℕ → Status → List ℕ → Type 0
Answers l = AnswersAs l.command l

-- an answer tells this of its text, unless there was no memory
abbrev pub Answered : (Status → List ℕ → Type 0) → Result Answer AllocError → Type 0
Answered tells r = IfOk r (λ a. TellsText a.status × tells a.status (bytes_of a.text))

-- ---- whatever the text, it is told

-- A typed specification is told as the command serves it, one that is not typed by its broken rule, and what is no specification by a
-- place, unless there was no memory, or a read or a write failed.
pub record Told (c : Command) (l : Line) (text : List ℕ) (s : Status) : Type 0 where
  pub typed : (p : Spec) (ws : List With) → SpecText text p ws → refusal_of p ≡ None → ((output : List ℕ) × Serves c l p ws s output) ⊎ HasFailed s
  pub untyped : (w : Wrong) → HasFault text w → (s ≡ status.Type_) ⊎ HasFailed s
  pub none : IsNone text → TellsPlace s ⊎ HasFailed s

-- An input of `exec` is told by a line where it begins with no program, by a place where it is a program with no list of values behind
-- it, and by `NotYet` where it is a program with values, with the same reserve.
pub record ToldExecution (text : List ℕ) (s : Status) : Type 0 where
  pub no_program : IsNoProgram text → TellsLine s ⊎ HasFailed s
  pub no_values : (t : Program) → IsProgram text t → HasNoValues text → TellsPlace s ⊎ HasFailed s
  pub other : (t : Program) (ws : List With) → IsExecution text t ws → (s ≡ status.NotYet) ⊎ HasFailed s

abbrev pub ToldAs : Command → Line → List ℕ → Status → Type 0
ToldAs command.Exec l text s = ToldExecution text s
ToldAs command.Replay l text s = (s ≡ status.NotYet) ⊎ HasFailed s
ToldAs command.Verify l text s = ToldVerification text s
ToldAs c l text s = Told c l text s

abbrev pub ToldBy : Line → List ℕ → Status → Type 0
ToldBy l = ToldAs l.command l

-- ---- the answers of status 0

-- the output is the text of a sound program of the text's specification, its canonical text, and the lines of a result that it allows
-- and that is found with so many turns for a loop
abbrev pub IsSynthesis : List ℕ → List ℕ → Type 0
IsSynthesis text output = Typed (λ p ws. Printed p output) text

abbrev pub IsCanonical : List ℕ → List ℕ → Type 0
IsCanonical text output = Typed (λ p ws. Canonical p output) text

abbrev pub IsEvaluation : ℕ → List ℕ → List ℕ → Type 0
IsEvaluation turns text output = Typed (λ p ws. (us : List Value) × (inputs p.params ws ≡ Ok us) × GivesLines turns p us output) text

-- ---- of what a source gave, and what went to a sink

-- what the source gave, up to its end, and what went to the sink meet a condition
abbrev pub Went : (List ℕ → List ℕ → Type 0) → Option (List ℕ) → Option (List ℕ) → Option (List ℕ) → Option (List ℕ) → Type 0
Went holds old new before after = (text : List ℕ) × (output : List ℕ) × Consumes old new text × IsAtEnd new × Appends before after output × holds text output

-- what the source gave, up to its end, meets a condition
abbrev pub GaveText : (List ℕ → Type 0) → Option (List ℕ) → Option (List ℕ) → Type 0
GaveText holds old new = (text : List ℕ) × Consumes old new text × IsAtEnd new × holds text

-- ---- of what is due

-- what is due to a command line: a status, and what is to be written for it, by what the source gave
abbrev pub DueTo : Line → Option (List ℕ) → Option (List ℕ) → Status → List ℕ → Type 0
DueTo l old new status.Usage output = ⊥
DueTo l old new status.WriteFault output = ⊥
DueTo l old new status.Memory output = ⊥
DueTo l old new status.TooLong output = output ≡ line_of status.TooLong
DueTo l old new status.ReadFault output = output ≡ line_of status.ReadFault
DueTo l old new s output = GaveText (λ text. Answers l text s output) old new

-- the same of words, which may be no command line
abbrev pub Due : Option Line → Option (List ℕ) → Option (List ℕ) → Status → List ℕ → Type 0
Due None old new s output = (s ≡ status.Usage) × (output ≡ line_of status.Usage)
Due (Some l) old new s output = DueTo l old new s output

-- the status of an answer; want of memory is one too
abbrev pub status_of : Result Answer AllocError → Status
status_of (Ok a) = a.status
status_of (Err e) = status.Memory
