use Rattle.std.proofs.Common.{◌≡◌}
use Rattle.share_table.specs.Owners.{moved}
use Rattle.share_table.proofs.Moves.{mapped_to}
use Rattle.share_table.proofs.owners.give_over.Given as goal

abbrev pub invariant-loop-index : goal.invariant-loop-index
invariant-loop-index l = l.entries ≡ mapped_to (moved l.from l.to) l.fn.entries l.index
