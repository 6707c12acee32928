-- What is told of a program by whether it stands as a whole and by what following its derivation came to.
use Rattle.std.specs.Prelude.{◌≡◌, ℕ, suc, ◌-◌, List, [], length, Option, Some, None}
use Rattle.fits.specs.Places.{State}
use Rattle.fits.specs.Follow.{Line, Views, Found as At, Unmet as Left}
use Rattle.fits.specs.Programs.{follow_whole}
use Rattle.fits_shape.specs.Fits.{Fits, IsUnfitAt, of_program}
use Rattle.fits_text.specs.FitsText.{text_views}
use Rattle.nres_core.specs.FlatTree.{FlatWhole}
use Rattle.nres_core.specs.declared.tree.Spec.{Spec}
use Rattle.nres_rules.specs.Identify.{IsFlatOf}
use Rattle.proof_lines.specs.Lines.{lines_of}
use Rattle.proof_text.specs.declared.line.ProofLine.{ProofLine}
use Rattle.rule_table.specs.Library.{library}
use Rattle.same_procs.specs.Same.{same_proc}
use Rattle.target_code.specs.declared.tree.Program.{Program}
use Rattle.unfit_line.specs.Tests.{stands_at}
use Rattle.proof_check.specs.Whole.{is_count}
use Rattle.proof_check.specs.declared.verdict.Followed.{Followed}
use Rattle.proof_check.specs.declared.verdict.Followed.TheVariants.{Found, Unmet}

-- the program stands as a whole with this number of branches and no other, or with none
abbrev pub StandsWith : FlatWhole → Program → Option ℕ → Type 0
StandsWith f T said = (m : ℕ) → stands_at same_proc library f T m ≡ is_count m said

-- following the derivation came to this
abbrev pub IsFollowed : Views → FlatWhole → Program → List Line → Followed → Type 0
IsFollowed V f T lines (Found n) = (last : State) × (follow_whole (of_program V T) f lines ≡ At last [] []) × (last.branch ≡ n)
IsFollowed V f T lines (Unmet k) = (left : List Line) × (follow_whole (of_program V T) f lines ≡ Left left) × (k ≡ suc (length lines - length left))

-- none is told exactly where the program fits, and else its line
pub record IsVerdict (V : Views) (f : FlatWhole) (T : Program) (lines : List Line) (said : Option ℕ) : Type 0 where
  pub fits : said ≡ None → Fits library V f T lines
  pub none : Fits library V f T lines → said ≡ None
  pub line : (n : ℕ) → said ≡ Some n → IsUnfitAt library V f T lines n

-- ---- over the table of rows and the library

-- the flat tree of a typed specification
abbrev pub IsTypedFlat : FlatWhole → Type 0
IsTypedFlat f = (spec : Spec) × IsFlatOf spec f

abbrev pub IsFollowedTo : FlatWhole → Program → List ProofLine → Followed → Type 0
IsFollowedTo f T lines said = IsFollowed (text_views f T.procs) f T (lines_of lines) said

abbrev pub IsVerdictOf : FlatWhole → Program → List ProofLine → Option ℕ → Type 0
IsVerdictOf f T lines said = IsVerdict (text_views f T.procs) f T (lines_of lines) said
