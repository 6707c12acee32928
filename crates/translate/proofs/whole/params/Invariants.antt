use Rattle.std.proofs.Common.{◌≡◌, take}
use Rattle.translate.proofs.whole.params.Given as goal

abbrev pub invariant-each : goal.invariant-each
invariant-each l = l.same ≡ take l.item-index l.list
