-- Each row of the table has the procedure of its operation.
use Rattle.std.specs.Prelude.{◌≡◌, ℕ, List, Option, Some}
use Rattle.nres_core.specs.declared.op.Op.{Op}
use Rattle.nres_core.specs.declared.row.LibName.{LibName}
use Rattle.rule_check.specs.Table.{Rule, row_for}
use Rattle.rule_table.specs.RowProcedures.{procedure}
use Rattle.target_code.specs.declared.tree.Rep.{Rep}
use Rattle.fits.specs.Follow.{Views}
use Rattle.fits_shape.specs.Trees.{IsNamed, NamesOperations}

-- the names of the library's procedures
abbrev pub library_name : LibName → List ℕ
library_name name = (procedure name).name

-- a row that is found for an operation is one by register, of a length or a size, or has the procedure that is for the operation and the kind of what is made
abbrev pub FoundAreNamed : Type 0
FoundAreNamed = (op : Op) (xs : List Rep) (made : Option Rep) (x : Rule) → row_for op xs made ≡ Some x → IsNamed library_name op made x.code

-- views that find no row but the table's, and call the library's procedures by their names
pub record LookAtTable (V : Views) : Type 0 where
  pub rows : (op : Op) (xs : List Rep) (made : Option Rep) (x : Rule) → V.book.row_for op xs made ≡ Some x → row_for op xs made ≡ Some x
  pub named : (name : LibName) → V.lib_name name ≡ library_name name

-- such views name each row after its operation
abbrev pub TablesNameOperations : Type 0
TablesNameOperations = (V : Views) → LookAtTable V → NamesOperations V
