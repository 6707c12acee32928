-- What `verify` writes for a text of a specification, a program and a derivation.
use Rattle.std.specs.Prelude.{◌≡◌, ◌⊎◌, ℕ, Bool, true, false, List, [], ◌∷◌, ◌++◌, codes}
use Rattle.nres_core.specs.FlatTree.{flat_whole_of}
use Rattle.nres_core.specs.declared.place.Place.{Place}
use Rattle.nres_types.specs.declared.refusal.TypeRefusal.{TypeRefusal}
use Rattle.proof_text.specs.Parts.{program_part, spec_part}
use Rattle.sequential.specs.Sequential.{sequential_whole}
use Rattle.sepref_verify.specs.Saying.{FitsBy, HasParts, Refuted, Unserved, Verified}
use Rattle.sepref_verify.specs.declared.saying.Verdict.{Verdict}
use Rattle.sepref_verify.specs.declared.saying.Verdict.TheVariants as verdict
use Rattle.target_code.specs.Formed.{Formed}
use Rattle.target_code.specs.declared.tree.Program.{Program}
use Rattle.target_lines.specs.Programs.{program_text}
use Rattle.verify_input.specs.Verifications.{IsNone, IsTyped, IsUntyped, NoProgramAt, StopsAt, StopsDeep}
use Rattle.sepref_top.specs.Statuses.{HasFailed, TellsLine, TellsPlace, TellsUnfit, line_of}
use Rattle.sepref_top.specs.TypeLines.{refusal_line}
use Rattle.sepref_top.specs.declared.status.Status.{Status}
use Rattle.sepref_top.specs.declared.status.Status.TheVariants as status

-- ---- each answer, with its cause

-- the program fits the specification by the derivation; so it has the specification's shape, is sound for it, and its runs are bounded wherever the
-- specification ends; and `ok` is written
pub record IsVerified (text output : List ℕ) : Type 0 where
  pub verified : Verified text
  pub written : output ≡ codes "ok" ++ (10 ∷ [])

-- it does not fit, and the line that is told is written
pub record IsRefuted (text : List ℕ) (n : ℕ) (output : List ℕ) : Type 0 where
  pub refuted : Refuted text n
  pub written : output ≡ line_of (status.NoProof n)

-- the specification has branches, which are not served yet
pub record IsUnserved (text output : List ℕ) : Type 0 where
  pub unserved : Unserved text
  pub written : output ≡ line_of status.NotYet

-- the first part is no specification; or only a limit refuses it
pub record PartStopsAt (text : List ℕ) (q : Place) (output : List ℕ) : Type 0 where
  pub stops : StopsAt (spec_part text) q
  pub written : output ≡ line_of (status.Syntax q)

pub record PartStopsDeep (text : List ℕ) (q : Place) (output : List ℕ) : Type 0 where
  pub stops : StopsDeep (spec_part text) q
  pub written : output ≡ line_of (status.TooDeep q)

-- it is one that is not typed
pub record PartIsUntyped (text output : List ℕ) : Type 0 where
  pub refusal : TypeRefusal
  pub untyped : IsUntyped (spec_part text) refusal
  pub written : output ≡ refusal_line refusal

-- it is a typed one, and the second part is the text of no program
pub record PartIsNoProgram (text : List ℕ) (k : ℕ) (output : List ℕ) : Type 0 where
  pub refused : NoProgramAt text k
  pub written : output ≡ line_of (status.NotProgram k)

-- a status and an output tell what is said of a text
abbrev pub AnswersVerification : List ℕ → Status → List ℕ → Type 0
AnswersVerification text status.Done output = IsVerified text output
AnswersVerification text (status.NoProof n) output = IsRefuted text n output
AnswersVerification text status.NotYet output = IsUnserved text output
AnswersVerification text (status.Syntax q) output = PartStopsAt text q output
AnswersVerification text (status.TooDeep q) output = PartStopsDeep text q output
AnswersVerification text status.Type_ output = PartIsUntyped text output
AnswersVerification text (status.NotProgram k) output = PartIsNoProgram text k output
AnswersVerification text s output = ⊥

-- those of a verdict
abbrev pub TellsVerdict : Verdict → Status → List ℕ → Type 0
TellsVerdict verdict.Fits s output = (s ≡ status.Done) × (output ≡ codes "ok" ++ (10 ∷ []))
TellsVerdict (verdict.NoProof n) s output = (s ≡ status.NoProof n) × (output ≡ line_of (status.NoProof n))
TellsVerdict verdict.NotYet s output = (s ≡ status.NotYet) × (output ≡ line_of status.NotYet)
TellsVerdict (verdict.Syntax q) s output = (s ≡ status.Syntax q) × (output ≡ line_of (status.Syntax q))
TellsVerdict (verdict.TooDeep q) s output = (s ≡ status.TooDeep q) × (output ≡ line_of (status.TooDeep q))
TellsVerdict (verdict.Untyped r) s output = (s ≡ status.Type_) × (output ≡ refusal_line r)
TellsVerdict (verdict.NotProgram k) s output = (s ≡ status.NotProgram k) × (output ≡ line_of (status.NotProgram k))

-- ---- whatever the text, it is told

-- the program fits by the derivation
abbrev pub FitsAs : {text : List ℕ} → HasParts text → Type 0
FitsAs p = FitsBy (flat_whole_of p.flat) p.program p.proof

-- the specification has no branches
abbrev pub is_served : {text : List ℕ} → HasParts text → Bool
is_served p = sequential_whole (flat_whole_of p.flat)

-- the second part is the text of no program
abbrev pub HasNoProgram : List ℕ → Type 0
HasNoProgram text = (t : Program) → Formed t → program_part text ≡ program_text t → ⊥

-- What is no specification is told by a place, one that is not typed by its broken rule, and a typed one with no program behind it by a line. Where there are both,
-- `NotYet` tells that the specification has branches, and else `Done` that the program fits by the derivation, and a line that it does not; unless there was no
-- memory, or a read or a write failed.
pub record ToldVerification (text : List ℕ) (s : Status) : Type 0 where
  pub none : IsNone (spec_part text) → TellsPlace s ⊎ HasFailed s
  pub untyped : (r : TypeRefusal) → IsUntyped (spec_part text) r → (s ≡ status.Type_) ⊎ HasFailed s
  pub no_program : IsTyped (spec_part text) → HasNoProgram text → TellsLine s ⊎ HasFailed s
  pub unserved : (p : HasParts text) → is_served p ≡ false → (s ≡ status.NotYet) ⊎ HasFailed s
  pub fits : (p : HasParts text) → is_served p ≡ true → FitsAs p → (s ≡ status.Done) ⊎ HasFailed s
  pub unfit : (p : HasParts text) → is_served p ≡ true → ¬ FitsAs p → TellsUnfit s ⊎ HasFailed s
