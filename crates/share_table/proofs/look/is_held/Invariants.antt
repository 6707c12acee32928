use Rattle.std.proofs.Common.{◌≡◌, take}
use Rattle.share_table.specs.Amounts.{amount}
use Rattle.share_table.proofs.look.is_held.Given as goal

abbrev pub invariant-loop-entry : goal.invariant-loop-entry
invariant-loop-entry l = amount (take l.entry-index l.entries) l.owner l.block l.place ≡ 0
