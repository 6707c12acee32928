-- What the walk comes to is what following a derivation comes to.
use Rattle.std.proofs.Common.{◌≡◌, ◌<◌, ◌^◌, ℕ, suc, ◌-◌, Bool, List, length, Option, None, cond, Result, Ok, Err, refl, sym, ap, ◌∙◌, subst, lt-ltb}
use Rattle.fit_blocks.specs.declared.frame.Unmet.{Unmet}
use Rattle.fit_walk.specs.Wholes.{FlatViews, WholeIs}
use Rattle.fits.specs.Follow.{Views}
use Rattle.fits.specs.Programs.{follow_whole}
use Rattle.fits_shape.specs.Fits.{of_program}
use Rattle.fits_text.specs.FitsText.{row_within, text_views}
use Rattle.library_named.proofs.NamesLemmas.{library_is_named}
use Rattle.lib_names.specs.Names.{lib_word}
use Rattle.nres_core.specs.FlatTree.{FlatWhole}
use Rattle.nres_core.specs.declared.op.Op.{Op}
use Rattle.proof_check.specs.Verdict.{IsFollowed}
use Rattle.proof_check.specs.declared.verdict.Followed.{Followed}
use Rattle.derivation_walk.specs.Followings.{followed_as}
use Rattle.proof_lines.proofs.Lengths.{as_many}
use Rattle.proof_lines.specs.Lines.{lines_of}
use Rattle.proof_text.specs.declared.line.ProofLine.{ProofLine}
use Rattle.rule_check.specs.Steps.{op_bound}
use Rattle.rule_check.specs.Table.{row_for}
use Rattle.rule_steps.specs.Operations.{table_row}
use Rattle.rule_table.specs.RowProcedures.{procedure}
use Rattle.target_code.specs.declared.tree.Proc.{Proc}
use Rattle.target_code.specs.declared.tree.Program.{Program}
use Rattle.target_code.specs.declared.tree.Rep.{Rep}

rows_are : (op : Op) (xs : List Rep) (made : Option Rep) → row_for op xs made ≡ table_row op xs made
unfolding table_row
rows_are op xs made = refl

rows_within : (op : Op) (xs : List Rep) (made : Option Rep) → op_bound made xs < 2 ^ 32 → row_within op xs made ≡ table_row op xs made
rows_within op xs made l =
    ap (λ (b : Bool). cond b (row_for op xs made) None) (lt-ltb (op_bound made xs) (2 ^ 32) l) ∙ rows_are op xs made

named : (λ name. (procedure name).name) ≡ lib_word
named = sym (λ i name. library_is_named name i)

pub views_are : (w : FlatWhole) (T : Program) → FlatViews w T.procs (of_program (text_views w T.procs) T)
views_are w T = record { rows = rows_within; sigs = refl; names = refl; procs = refl; library = named }

-- whatever is looked up, so that no table and no library is computed here
module _ (V : Views) (w : FlatWhole) (T : Program) (lines : List ProofLine) where
  by_said : (r : Result ℕ Unmet) → WholeIs (follow_whole (of_program V T) w (lines_of lines)) r → IsFollowed V w T (lines_of lines) (followed_as (length lines) r)
  by_said (Ok n) h = (h.last, h.found, sym h.branch)
  by_said (Err u) h =
      (lines_of u.lines.now, h, ap (λ n. suc (n - length u.lines.now)) (sym (as_many lines)) ∙ ap (λ n. suc (length (lines_of lines) - n)) (sym (as_many u.lines.now)))

  pub followed_so :
      FlatViews w T.procs (of_program V T) → (ps : List Proc) → ps ≡ T.procs → (r : Result ℕ Unmet)
      → ((U : Views) → FlatViews w ps U → WholeIs (follow_whole U w (lines_of lines)) r) → (a : Followed) → a ≡ followed_as (length lines) r → IsFollowed V w T (lines_of lines) a
  followed_so v ps e r h a s = subst (IsFollowed V w T (lines_of lines)) (sym s) (by_said r (h (of_program V T) (subst (λ qs. FlatViews w qs (of_program V T)) (sym e) v)))
