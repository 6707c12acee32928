-- What an input of `verify` is, and why it is none.
use Rattle.std.specs.Prelude.{◌≡◌, ◌≢◌, ℕ, Bool, true, false, List, None}
use Rattle.nres_core.specs.Texts.{SpecText}
use Rattle.nres_core.specs.declared.place.Place.{Place}
use Rattle.nres_core.specs.declared.tree.Spec.{Spec}
use Rattle.nres_core.specs.declared.tree.With.{With}
use Rattle.nres_core.specs.declared.tree.Typing.{Typing}
use Rattle.nres_rules.specs.Types.{HasTyping, refusal_of}
use Rattle.nres_syntax.specs.Refusals.{RefusedAt, RefusedDeep}
use Rattle.nres_types.specs.Wholes.{IsTold}
use Rattle.nres_types.specs.declared.refusal.TypeRefusal.{TypeRefusal}
use Rattle.nres_types.specs.declared.refusal.TypeRefusal.TheVariants as e
use Rattle.proof_text.specs.Parts.{spec_part, program_part, proof_part}
use Rattle.proof_text.specs.Readings.{IsReadAs}
use Rattle.target_code.specs.Formed.{Formed}
use Rattle.target_lines.specs.Programs.{program_text}
use Rattle.target_text.specs.Refusals.{RefusedAt as LineRefused}
use Rattle.target_text.specs.declared.refusal.NotProgram.{NotProgram}
use Rattle.target_text.specs.declared.refusal.NotProgram.TheVariants as malformed
use Rattle.verify_input.specs.declared.reading.Unverified.{Unverified}
use Rattle.verify_input.specs.declared.reading.Unverified.TheVariants as un
use Rattle.verify_input.specs.declared.reading.Verification.{Verification}

-- ---- the first part

-- it is the text of a typed specification
pub record IsTypedAs (part : List ℕ) (spec : Spec) (typing : Typing) : Type 0 where
  pub withs : List With
  pub reads : SpecText part spec withs
  pub typed : HasTyping spec typing

abbrev pub IsNone : List ℕ → Type 0
IsNone part = (p : Spec) (ws : List With) → ¬ SpecText part p ws

-- it is the text of no specification: this is the first place at which none can go on
pub record StopsAt (part : List ℕ) (q : Place) : Type 0 where
  pub none : IsNone part
  pub refused : RefusedAt part q

-- the same, where a limit alone is at fault
pub record StopsDeep (part : List ℕ) (q : Place) : Type 0 where
  pub none : IsNone part
  pub refused : RefusedDeep part q

-- it is the text of a specification that is not typed, of which this refusal tells the rule that is broken first
pub record IsUntyped (part : List ℕ) (r : TypeRefusal) : Type 0 where
  pub spec : Spec
  pub withs : List With
  pub reads : SpecText part spec withs
  pub told : IsTold r (refusal_of spec)
  pub real : r ≢ e.Memory

-- it is the text of some typed specification
pub record IsTyped (part : List ℕ) : Type 0 where
  pub spec : Spec
  pub withs : List With
  pub reads : SpecText part spec withs
  pub typed : refusal_of spec ≡ None

abbrev pub is_memory : TypeRefusal → Bool
is_memory e.Memory = true
is_memory _ = false

-- ---- whole inputs

-- a typed specification, a formed program and a derivation, which may have lines that are none
pub record IsVerification (text : List ℕ) (x : Verification) : Type 0 where
  pub spec : IsTypedAs (spec_part text) x.spec x.typing
  pub formed : Formed x.program
  pub is_text : program_part text ≡ program_text x.program
  pub proof : IsReadAs (proof_part text) x.proof

-- the first part is a typed specification, and the second the text of no program: this line is refused, counted from that part's first
pub record NoProgramAt (text : List ℕ) (k : ℕ) : Type 0 where
  pub typed : IsTyped (spec_part text)
  pub refused : LineRefused (program_part text) k

-- ---- errors of the steps

abbrev pub unread : NotProgram → Unverified
unread (malformed.Line k) = un.NotProgram k
unread malformed.Memory = un.Memory

abbrev pub IsUntypedOrMemory : Unverified → Type 0
IsUntypedOrMemory (un.Untyped r) = Unit {0}
IsUntypedOrMemory un.Memory = Unit {0}
IsUntypedOrMemory _ = ⊥

abbrev pub IsUnreadOrMemory : Unverified → Type 0
IsUnreadOrMemory (un.NotProgram k) = Unit {0}
IsUnreadOrMemory un.Memory = Unit {0}
IsUnreadOrMemory _ = ⊥
