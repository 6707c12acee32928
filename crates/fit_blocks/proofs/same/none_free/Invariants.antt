use Rattle.std.proofs.Common.{◌≡◌, drop}
use Rattle.side_laws.specs.Sides.{none_free}
use Rattle.fit_blocks.proofs.same.none_free.Given as goal

abbrev pub invariant-each : goal.invariant-each
invariant-each l = none_free l.places l.context.spots ≡ none_free (drop l.place-index l.places) l.context.spots
