use Rattle.std.proofs.Common.{◌≡◌, take}
use Rattle.op_identify.proofs.copy.names.Given as goal

abbrev pub invariant-each : goal.invariant-each
invariant-each l = l.same ≡ take l.item-index l.list
