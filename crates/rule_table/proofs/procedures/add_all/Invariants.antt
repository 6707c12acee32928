use Rattle.std.proofs.Common.{◌≡◌, ◌++◌, map, take}
use Rattle.rule_table.specs.RowProcedures.{procedure}
use Rattle.rule_table.proofs.procedures.add_all.Given as goal

abbrev pub invariant-loop-name : goal.invariant-loop-name
invariant-loop-name l = l.list.items ≡ l.initial.list.items ++ map procedure (take l.name-index l.names)
