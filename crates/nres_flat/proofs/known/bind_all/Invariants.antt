use Rattle.std.proofs.Common.{◌≡◌, drop}
use Rattle.nres_rules.specs.Flatten.{scoped}
use Rattle.nres_flat.proofs.known.bind_all.Given as goal

abbrev pub invariant-each : goal.invariant-each
invariant-each l = scoped (drop l.at l.names) (drop l.at l.args) l.scope ≡ scoped l.names l.args l.initial.scope
