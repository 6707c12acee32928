use Rattle.std.proofs.Common.{◌≡◌, drop}
use Rattle.share_table.specs.Amounts.{length_in}
use Rattle.share_table.proofs.look.length_of.Given as goal

abbrev pub invariant-loop-entry : goal.invariant-loop-entry
invariant-loop-entry l = length_in (drop l.entry-index l.entries) l.owner l.block ≡ length_in l.entries l.owner l.block
