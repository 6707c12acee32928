-- Laws of the table with the library.
use Rattle.std.specs.Prelude.{ℕ, ◌^◌, ◌<◌, List}
use Rattle.nres_core.specs.declared.row.Row.{Row}
use Rattle.rule_check.specs.Rows.{rules_of}
use Rattle.rule_table.specs.Library.{library}
use Rattle.rule_table.specs.Sound.{AllSound}

-- each row is sound with the library, for each bound of sets and maps below 2^32
abbrev pub TableSound : List Row → Type 0
TableSound rows = (u : ℕ) → u < 2 ^ 32 → AllSound library u (rules_of rows)
