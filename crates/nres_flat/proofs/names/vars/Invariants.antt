use Rattle.std.proofs.Common.{◌≡◌, take}
use Rattle.nres_rules.specs.Flatten.{vars}
use Rattle.nres_flat.proofs.names.vars.Given as goal

abbrev pub invariant-each : goal.invariant-each
invariant-each l = l.args ≡ vars (take l.number-index l.numbers)
