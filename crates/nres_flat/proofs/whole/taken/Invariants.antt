use Rattle.std.proofs.Common.{◌≡◌, take}
use Rattle.nres_rules.specs.Flatten.{taken}
use Rattle.nres_flat.proofs.whole.taken.Given as goal

abbrev pub invariant-each : goal.invariant-each
invariant-each l = l.ins ≡ taken (take l.param-index l.params)
