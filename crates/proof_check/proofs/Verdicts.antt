-- What is told of a program is its line.
use Rattle.std.specs.Prelude.{◌≡◌, ℕ, suc, ◌-◌, true, false, List, [], length, Option, Some, None, is_some}
use Rattle.std.proofs.Common.{refl, sym, ◌∙◌, subst, eqb-true, eq-eqb}
use Rattle.fits.specs.Places.{State}
use Rattle.fits.specs.Follow.{Line, Views, Found as At, Unmet as Left}
use Rattle.fits.specs.Programs.{follow_whole}
use Rattle.fits_shape.specs.Fits.{IsUnfitAt, whole, line, too_many, Stands, of_program}
use Rattle.fits_shape.proofs.Shapes.{unfit_do_not_fit}
use Rattle.nres_core.specs.FlatTree.{FlatWhole}
use Rattle.rule_table.specs.Library.{library}
use Rattle.same_procs.specs.Same.{same_proc}
use Rattle.same_procs.proofs.Equals.{equals_are_told}
use Rattle.target_code.specs.declared.tree.Program.{Program}
use Rattle.unfit_line.specs.UnfitLine.{TellsEqual}
use Rattle.unfit_line.proofs.Whole.{passes_at, stands_so}
use Rattle.proof_check.specs.Whole.{is_count}
use Rattle.proof_check.specs.Verdict.{StandsWith, IsVerdict}

tells : TellsEqual same_proc
tells = record { equal = equals_are_told.equal; itself = equals_are_told.itself }

module _ (V : Views) (f : FlatWhole) (T : Program) (lines : List Line) where
  abbrev Verdict : Option ℕ → Type 0
  Verdict said = IsVerdict V f T lines said

  -- a line that is told, by its cause
  by_line : (n : ℕ) → IsUnfitAt library V f T lines n → Verdict (Some n)
  by_line n u = record {
    fits = λ e. absurd (cc e);
    none = λ x. absurd (unfit_do_not_fit library V f T lines n u x);
    line = λ k e. (let same : n ≡ k = cc e in subst (IsUnfitAt library V f T lines) same u);
  }

  branches_are : (said : Option ℕ) → StandsWith f T said → (s : Stands library f T) → is_count (length s.branches) said ≡ true
  branches_are said h s = sym (h (length s.branches)) ∙ passes_at same_proc tells library f T s

  stands_so_many : (b : ℕ) → StandsWith f T (Some b) → (s : Stands library f T) × (b ≡ length s.branches)
  stands_so_many b h = stands_so same_proc tells library f T T.procs b refl (h b ∙ eq-eqb b b refl)

  pub none_stands : StandsWith f T None → Verdict (Some 1)
  none_stands h = by_line 1 (whole (λ s. (let o : false ≡ true = branches_are None h s in cc o)))

  pub not_found : (b k : ℕ) (left : List Line) → StandsWith f T (Some b) → follow_whole (of_program V T) f lines ≡ Left left → k ≡ suc (length lines - length left) → Verdict (Some k)
  not_found b k left h e same = by_line k (subst (IsUnfitAt library V f T lines) (sym same) (line (stands_so_many b h).0 e))

  pub found_all : (b n : ℕ) (last : State) → StandsWith f T (Some b) → follow_whole (of_program V T) f lines ≡ At last [] [] → last.branch ≡ n → n ≡ b → Verdict None
  found_all b n last h e m same =
      let s = stands_so_many b h in
      record {
        fits = λ o. record { stands = s.0; last = last; followed = e; as_many = m ∙ same ∙ s.1 };
        none = λ x. refl;
        line = λ k o. absurd (cc o);
      }

  pub found_other : (b n : ℕ) (last : State) → StandsWith f T (Some b) → follow_whole (of_program V T) f lines ≡ At last [] [] → last.branch ≡ n → (n ≡ b → ⊥) → Verdict (Some 1)
  found_other b n last h e m other =
      by_line 1 (too_many (λ s k. other (sym m ∙ k ∙ eqb-true (length s.branches) b (branches_are (Some b) h s))) e)

-- ---- what is told without following

pub unfollowed : (V : Views) (f : FlatWhole) (T : Program) (lines : List Line) (said : Option ℕ) → StandsWith f T said → is_some said ≡ false → IsVerdict V f T lines (Some 1)
unfollowed V f T lines None h e = none_stands V f T lines h
unfollowed V f T lines (Some b) h e = absurd (cc e)
