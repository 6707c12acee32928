use Rattle.std.proofs.Common.{◌≡◌, drop}
use Rattle.range_split.specs.Places.{Ascending, oldest_gone, picked}
use Rattle.range_split.proofs.located.missed_at.Given as goal

abbrev pub invariant-each : goal.invariant-each
invariant-each l = (oldest_gone (picked (drop l.place-index l.places) l.context.spots) ≡ oldest_gone (picked l.places l.context.spots)) × Ascending (drop l.place-index l.places)
