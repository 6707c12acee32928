-- What a program has of the library, and that the rows of the table are then sound as the proof about fitting programs wants them.
use Rattle.std.specs.Prelude.{◌≡◌, ◌^◌, ◌<◌, List, Option, Some}
use Rattle.nres_core.specs.declared.op.Op.{Op}
use Rattle.nres_core.specs.declared.row.LibName.{LibName}
use Rattle.target_code.specs.declared.tree.Proc.{Proc}
use Rattle.target_code.specs.declared.tree.Rep.{Rep}
use Rattle.rule_check.specs.Steps.{op_bound}
use Rattle.rule_check.specs.Table.{Rule, row_for}
use Rattle.rule_table.specs.Library.{library, AllFound}
use Rattle.rule_table.specs.RowProcedures.{procedure}
use Rattle.rule_table.specs.Sound.{Sound}
use Rattle.run_laws.specs.RunLaws.{Laws}
use Rattle.fits.specs.Follow.{Views}
use Rattle.fits_sound.specs.World.{Rows_sound}

-- the views look at the table, for bounds of sets and maps below 2^32, and name the library's procedures as they are named
pub record LooksAtTable (V : Views) : Type 0 where
  pub rows : (op : Op) (xs : List Rep) (made : Option Rep) (x : Rule) → V.book.row_for op xs made ≡ Some x → (row_for op xs made ≡ Some x) × (op_bound made xs < 2 ^ 32)
  pub named : (name : LibName) → V.lib_name name ≡ (procedure name).name

-- a program that finds the library's procedures by their names, the laws by which its runs are proved, and views of the table
pub record HasRows : Type 1 where
  pub procs : List Proc
  pub found : AllFound procs library
  pub laws : Laws procs
  pub views : Views
  pub looks : LooksAtTable views

-- each row that is found is sound
abbrev pub AreSound : HasRows → Type 0
AreSound P = Rows_sound P.procs P.laws P.views

-- a row of the table that is found is sound with each list of procedures that has the library, for a bound of sets and maps below 2^32
abbrev pub FoundAreSound : Type 0
FoundAreSound =
    (procs : List Proc) → AllFound procs library → (op : Op) (xs : List Rep) (made : Option Rep) (x : Rule) → row_for op xs made ≡ Some x → op_bound made xs < 2 ^ 32
    → Sound procs (op_bound made xs) x
