use Rattle.std.proofs.Common.{[], take}
use Rattle.share_table.specs.Outside.{Beside}
use Rattle.share_table.proofs.outside.beside.Given as goal

abbrev pub invariant-loop-entry : goal.invariant-loop-entry
invariant-loop-entry l = Beside (take l.entry-index l.entries) l.taking [] l.table.items
