-- What `verify` says of a text, and what each answer means.
use Rattle.std.specs.Prelude.{◌≡◌, ℕ, true, false, List, Option, Some, None}
use Rattle.fits_shape.specs.Fits.{Fits, IsUnfitAt}
use Rattle.fits_text.specs.FitsText.{text_views}
use Rattle.nres_core.specs.FlatTree.{FlatWhole, flat_whole_of}
use Rattle.nres_core.specs.Texts.{SpecText}
use Rattle.nres_core.specs.declared.flat.Flat.{Flat}
use Rattle.nres_core.specs.declared.tree.Spec.{Spec}
use Rattle.nres_core.specs.declared.tree.With.{With}
use Rattle.nres_rules.specs.Identify.{IsFlatOf}
use Rattle.proof_lines.specs.Lines.{lines_of}
use Rattle.proof_text.specs.Parts.{spec_part, program_part, proof_part}
use Rattle.proof_text.specs.Readings.{IsReadAs}
use Rattle.proof_text.specs.declared.line.Proof.{Proof}
use Rattle.rule_table.specs.Library.{library}
use Rattle.sequential.specs.Sequential.{sequential_whole}
use Rattle.soundness.specs.Behaviour.{of_spec}
use Rattle.soundness.specs.Bound.{IsBoundedFor}
use Rattle.soundness.specs.Shape.{Shape}
use Rattle.soundness.specs.Sound.{Sound}
use Rattle.target_code.specs.Formed.{Formed}
use Rattle.target_code.specs.declared.tree.Program.{Program}
use Rattle.target_lines.specs.Programs.{program_text}
use Rattle.verify_input.specs.Verifications.{IsUntyped, NoProgramAt, StopsAt, StopsDeep}
use Rattle.verify_input.specs.declared.reading.Unverified.{Unverified}
use Rattle.verify_input.specs.declared.reading.Unverified.TheVariants as un
use Rattle.verify_input.specs.declared.reading.Verification.{Verification}
use Rattle.sepref_verify.specs.declared.saying.Verdict.{Verdict}
use Rattle.sepref_verify.specs.declared.saying.Verdict.TheVariants as verdict

-- a program fits a flat specification by a derivation, over the table of rows and the library; and it does not, and this line is told
abbrev pub FitsBy : FlatWhole → Program → Proof → Type 0
FitsBy f T d = Fits library (text_views f T.procs) f T (lines_of d.lines)

abbrev pub IsUnfitBy : FlatWhole → Program → Proof → ℕ → Type 0
IsUnfitBy f T d n = IsUnfitAt library (text_views f T.procs) f T (lines_of d.lines) n

-- a text has these parts: a typed specification, whose flat tree this is, a formed program, and a derivation
pub record HasParts (text : List ℕ) : Type 0 where
  pub spec : Spec
  pub withs : List With
  pub reads : SpecText (spec_part text) spec withs
  pub flat : Flat
  pub flat_is : IsFlatOf spec (flat_whole_of flat)
  pub program : Program
  pub formed : Formed program
  pub is_text : program_part text ≡ program_text program
  pub proof : Proof
  pub proof_is : IsReadAs (proof_part text) proof

-- the specification has no branches, and the program fits by the derivation; so it has the specification's shape, is sound for it, and its runs are bounded wherever the specification ends
pub record Verified (text : List ℕ) : Type 0 where
  pub parts : HasParts text
  pub served : sequential_whole (flat_whole_of parts.flat) ≡ true
  pub fits : FitsBy (flat_whole_of parts.flat) parts.program parts.proof
  pub shape : Shape library (flat_whole_of parts.flat) parts.program
  pub sound : Sound parts.spec parts.program
  pub bounded : IsBoundedFor (of_spec parts.spec) parts.program

-- it does not fit, and this line is told
pub record Refuted (text : List ℕ) (n : ℕ) : Type 0 where
  pub parts : HasParts text
  pub served : sequential_whole (flat_whole_of parts.flat) ≡ true
  pub unfit : IsUnfitBy (flat_whole_of parts.flat) parts.program parts.proof n

-- the specification has branches
pub record Unserved (text : List ℕ) : Type 0 where
  pub parts : HasParts text
  pub branches : sequential_whole (flat_whole_of parts.flat) ≡ false

abbrev pub Says : List ℕ → Verdict → Type 0
Says text verdict.Fits = Verified text
Says text (verdict.NoProof n) = Refuted text n
Says text verdict.NotYet = Unserved text
Says text (verdict.Syntax q) = StopsAt (spec_part text) q
Says text (verdict.TooDeep q) = StopsDeep (spec_part text) q
Says text (verdict.Untyped r) = IsUntyped (spec_part text) r
Says text (verdict.NotProgram k) = NoProgramAt text k

-- ---- steps

-- what is said of an input's own trees
pub record FitsFor (x : Verification) : Type 0 where
  pub flat : Flat
  pub flat_is : IsFlatOf x.spec (flat_whole_of flat)
  pub served : sequential_whole (flat_whole_of flat) ≡ true
  pub fits : FitsBy (flat_whole_of flat) x.program x.proof

pub record UnfitFor (x : Verification) (n : ℕ) : Type 0 where
  pub flat : Flat
  pub flat_is : IsFlatOf x.spec (flat_whole_of flat)
  pub served : sequential_whole (flat_whole_of flat) ≡ true
  pub unfit : IsUnfitBy (flat_whole_of flat) x.program x.proof n

pub record UnservedFor (x : Verification) : Type 0 where
  pub flat : Flat
  pub flat_is : IsFlatOf x.spec (flat_whole_of flat)
  pub branches : sequential_whole (flat_whole_of flat) ≡ false

abbrev pub IsCheckedAs : Verification → Verdict → Type 0
IsCheckedAs x verdict.Fits = FitsFor x
IsCheckedAs x (verdict.NoProof n) = UnfitFor x n
IsCheckedAs x verdict.NotYet = UnservedFor x
IsCheckedAs x v = ⊥

-- the line that is told, or none
abbrev pub verdict_of : Option ℕ → Verdict
verdict_of None = verdict.Fits
verdict_of (Some n) = verdict.NoProof n

abbrev pub SaysUnverified : Unverified → Verdict → Type 0
SaysUnverified (un.Syntax q) v = v ≡ verdict.Syntax q
SaysUnverified (un.TooDeep q) v = v ≡ verdict.TooDeep q
SaysUnverified (un.Untyped r) v = v ≡ verdict.Untyped r
SaysUnverified (un.NotProgram k) v = v ≡ verdict.NotProgram k
SaysUnverified un.Memory v = ⊥
