-- The procedures of the table's rows have the names by which texts call them.
use Rattle.std.specs.Prelude.{◌≡◌}
use Rattle.lib_names.specs.Names.{lib_word}
use Rattle.nres_core.specs.declared.row.LibName.{LibName}
use Rattle.rule_table.specs.RowProcedures.{procedure}

abbrev pub IsNamed : Type 0
IsNamed = (name : LibName) → lib_word name ≡ (procedure name).name
