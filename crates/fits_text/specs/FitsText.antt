-- A program that fits the flat tree of a typed text by a derivation.
use Rattle.std.specs.Prelude.{◌≡◌, ℕ, ◌^◌, nat_lt, cond, IsTrue, List, [], ◌∷◌}
use Rattle.std.specs.Prelude.{Option, Some, None}
use Rattle.nres_core.specs.FlatTree.{FlatWhole, flat_whole_of}
use Rattle.nres_core.specs.Texts.{SpecText}
use Rattle.nres_core.specs.declared.flat.Flat.{Flat}
use Rattle.nres_core.specs.declared.op.Op.{Op}
use Rattle.nres_core.specs.declared.tree.Spec.{Spec}
use Rattle.nres_core.specs.declared.tree.With.{With}
use Rattle.nres_rules.specs.Identify.{IsFlatOf}
use Rattle.rule_check.specs.Check.{book_of}
use Rattle.rule_check.specs.Steps.{op_bound}
use Rattle.rule_check.specs.Table.{Rule, row_for}
use Rattle.rule_table.specs.Library.{library}
use Rattle.rule_table.specs.RowProcedures.{procedure}
use Rattle.target_code.specs.Formed.{all_calls_met}
use Rattle.target_code.specs.declared.tree.Proc.{Proc}
use Rattle.target_code.specs.declared.tree.Program.{Program}
use Rattle.target_code.specs.declared.tree.Rep.{Rep}
use Rattle.target_meaning.specs.Leaf.{find}
use Rattle.fits.specs.Places.{State}
use Rattle.fits.specs.Follow.{Line, Views, Found}
use Rattle.fits.specs.Programs.{follow_whole}

-- what stands under the names of these procedures is these procedures, as they are
abbrev pub HasOnly : List Proc → List Proc → Type 0
HasOnly procs [] = Unit {0}
HasOnly procs (q ∷ qs) = ((p : Proc) → find procs q.name ≡ Some p → p ≡ q) × HasOnly procs qs

-- the first row of the table that fits, where the bounds of sets and maps are below 2^32
abbrev pub row_within : Op → List Rep → Option Rep → Option Rule
row_within op xs made = cond (nat_lt (op_bound made xs) (2 ^ 32)) (row_for op xs made) None

-- the table, the specification's procedures, those of a program, and the names of the library's
abbrev pub text_views : FlatWhole → List Proc → Views
text_views f procs = record { book = book_of row_within f; procs = procs; lib_name = λ name. (procedure name).name }

-- a text, its typed tree's flat tree, and a program of its parameters and results that fits it by a derivation; each call in the program finds one of its
-- procedures, and those under names of the library's are the library's
pub record FitsText : Type 0 where
  pub text : List ℕ
  pub spec : Spec
  pub withs : List With
  pub reads : SpecText text spec withs
  pub flat : Flat
  pub flat_is : IsFlatOf spec (flat_whole_of flat)
  pub program : Program
  pub ins : program.ins ≡ (flat_whole_of flat).params
  pub outs : program.outs ≡ (flat_whole_of flat).shown
  pub closed : IsTrue (all_calls_met program.procs)
  pub only : HasOnly program.procs library
  pub lines : List Line
  pub last : State
  pub fits : follow_whole (text_views (flat_whole_of flat) program.procs) (flat_whole_of flat) lines ≡ Found last [] []
