use Rattle.std.proofs.Common.{◌≡◌, ◌++◌, take, length}
use Rattle.nres_rules.specs.Flatten.{fresh, names_of}
use Rattle.nres_flat.proofs.names.Names.bind_all.Given as goal

abbrev pub invariant-each : goal.invariant-each
invariant-each l = (l.numbers ≡ fresh (take l.item-index l.names) (length l.initial.self)) × (l.self ≡ l.initial.self ++ names_of (take l.item-index l.names))
