-- The typed specification that a text is, and the program that is given for it; or why there is none.
use Rattle.std.specs.Prelude.{◌≡◌, ℕ, List, None, Result, Ok, Err}
use Rattle.nres_core.specs.Texts.{SpecText}
use Rattle.nres_core.specs.declared.tree.Spec.{Spec}
use Rattle.nres_core.specs.declared.tree.With.{With}
use Rattle.nres_rules.specs.Types.{HasTyping, refusal_of}
use Rattle.target_lines.specs.Programs.{program_text}
use Rattle.sepref_top.specs.Answers.{StopsAt, StopsDeep, TellsFault, Typed}
use Rattle.sepref_top.specs.Synthesis.{IsProgramOf, TellsUnmade}
use Rattle.sepref_top.specs.Texts.{bytes_of}
use Rattle.sepref_top.specs.declared.answer.Answer.{Answer}
use Rattle.sepref_top.specs.declared.making.Made.{Made}
use Rattle.sepref_top.specs.declared.making.Runnable.{Runnable}
use Rattle.sepref_top.specs.declared.reading.TypedSpec.{TypedSpec}
use Rattle.sepref_top.specs.declared.status.Status.{Status}
use Rattle.sepref_top.specs.declared.status.Status.TheVariants as status

-- ---- the typed specification that a text is

pub record IsTypedAs (text : List ℕ) (x : TypedSpec) : Type 0 where
  pub reads : SpecText text x.spec x.withs
  pub typing : HasTyping x.spec x.typing
  pub typed : refusal_of x.spec ≡ None

-- a status and an output tell why it is none
abbrev pub TellsUntyped : List ℕ → Status → List ℕ → Type 0
TellsUntyped text (status.Syntax q) output = StopsAt text q output
TellsUntyped text (status.TooDeep q) output = StopsDeep text q output
TellsUntyped text status.Type_ output = TellsFault text output
TellsUntyped text s output = ⊥

abbrev pub SaysTyped : List ℕ → Result TypedSpec Answer → Type 0
SaysTyped text (Ok x) = IsTypedAs text x
SaysTyped text (Err a) = TellsUntyped text a.status (bytes_of a.text)

-- ---- the program that is given for a specification

pub record IsMade (spec : Spec) (x : Made) : Type 0 where
  pub right : IsProgramOf spec x.program
  pub is_text : x.text.items ≡ program_text x.program

abbrev pub SaysMade : Spec → Result Made Answer → Type 0
SaysMade spec (Ok x) = IsMade spec x
SaysMade spec (Err a) = TellsUnmade spec a.status (bytes_of a.text)

-- the same, with the values behind the specification
abbrev pub SaysProgramOf : Spec → List With → Result Runnable Answer → Type 0
SaysProgramOf spec ws (Ok x) = IsProgramOf spec x.program × (x.withs ≡ ws)
SaysProgramOf spec ws (Err a) = TellsUnmade spec a.status (bytes_of a.text)

-- ---- the program that is given for the specification that a text is

-- the text reads as a typed specification with these values behind it, for which the program is right
pub record IsRunnable (text : List ℕ) (x : Runnable) : Type 0 where
  pub spec : Spec
  pub reads : SpecText text spec x.withs
  pub typed : refusal_of spec ≡ None
  pub right : IsProgramOf spec x.program

-- a status and an output tell why no program is given
abbrev pub TellsNoProgram : List ℕ → Status → List ℕ → Type 0
TellsNoProgram text (status.Syntax q) output = StopsAt text q output
TellsNoProgram text (status.TooDeep q) output = StopsDeep text q output
TellsNoProgram text status.Type_ output = TellsFault text output
TellsNoProgram text status.NoRule output = Typed (λ p ws. TellsUnmade p status.NoRule output) text
TellsNoProgram text status.NotYet output = Typed (λ p ws. TellsUnmade p status.NotYet output) text
TellsNoProgram text s output = ⊥

abbrev pub SaysProgram : List ℕ → Result Runnable Answer → Type 0
SaysProgram text (Ok x) = IsRunnable text x
SaysProgram text (Err a) = TellsNoProgram text a.status (bytes_of a.text)
