-- A specification and its procedures.
use Rattle.std.specs.Prelude.{◌≡◌, ◌<◌, ◌^◌, ℕ, List, [], Option, Result, Ok, Err, codes}
use Rattle.fit_blocks.specs.declared.frame.Unmet.{Unmet}
use Rattle.fit_walk.specs.declared.body.Past.{Past}
use Rattle.fits.specs.Follow as f
use Rattle.fits.specs.Follow.{Answer, Found, Line, proc_name, with_some}
use Rattle.fits.specs.Places.{State}
use Rattle.fits.specs.Programs.{follow_proc}
use Rattle.lib_names.specs.Names.{lib_word}
use Rattle.nres_core.specs.FlatTree.{FlatProc, FlatWhole}
use Rattle.nres_core.specs.declared.op.Op.{Op}
use Rattle.proof_lines.specs.Lines.{lines_of}
use Rattle.rule_check.specs.Check.{sigs_of}
use Rattle.rule_check.specs.Steps.{op_bound}
use Rattle.rule_steps.specs.Operations.{table_row}
use Rattle.target_code.specs.declared.tree.Proc.{Proc}
use Rattle.target_code.specs.declared.tree.Rep.{Rep}
use Rattle.target_meaning.specs.Leaf.{find}

-- what is looked up when a specification and the procedures of a program are followed; bounds of sets and maps are below 2^32
pub record FlatViews (w : FlatWhole) (code : List Proc) (V : f.Views) : Type 0 where
  pub rows : (op : Op) (xs : List Rep) (made : Option Rep) → op_bound made xs < 2 ^ 32 → V.book.row_for op xs made ≡ table_row op xs made
  pub sigs : V.book.sigs ≡ sigs_of w.procs
  pub names : V.book.names ≡ w.names
  pub procs : V.procs ≡ code
  pub library : V.lib_name ≡ lib_word

-- all lines are found, and so many branches
pub record Whole_found (n : ℕ) (a : Answer) : Type 0 where
  pub last : State
  pub found : a ≡ Found last [] []
  pub branch : n ≡ last.branch

abbrev pub WholeIs : Answer → Result ℕ Unmet → Type 0
WholeIs a (Ok n) = Whole_found n a
WholeIs a (Err u) = a ≡ f.Unmet (lines_of u.lines.now)

-- ---- part by part

-- the specification itself
abbrev pub main_followed : f.Views → FlatWhole → List Line → Answer
main_followed V w lines = with_some (find V.procs (codes "main")) lines (λ q. follow_proc V 0 0 w.params w.shown w.body q lines)

-- the procedure of this number, whose first variable is k, behind so many branches
abbrev pub proc_followed : f.Views → ℕ → ℕ → ℕ → FlatProc → List Line → Answer
proc_followed V g k n p lines = with_some (find V.procs (proc_name g)) lines (λ q. follow_proc V k n p.params p.shown p.body q lines)
