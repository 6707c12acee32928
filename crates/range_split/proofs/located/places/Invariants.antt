use Rattle.std.proofs.Common.{take}
use Rattle.range_split.specs.Places.{Ascending, Places}
use Rattle.range_split.proofs.located.places.Given as goal

abbrev pub invariant-each : goal.invariant-each
invariant-each l = Places (take l.variable-index l.uses) l.found.keys l.context.spots × Ascending l.found.keys
