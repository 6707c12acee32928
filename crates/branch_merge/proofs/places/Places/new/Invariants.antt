use Rattle.std.proofs.Common.{take}
use Rattle.branch_merge.specs.Sets.{Holds}
use Rattle.branch_merge.proofs.places.Places.new.Given as goal

abbrev pub invariant-each : goal.invariant-each
invariant-each l = Holds l.set (take l.index-index l.list)
