use Rattle.std.proofs.Common.{◌≡◌, drop}
use Rattle.fits.specs.Places.{same_shapes}
use Rattle.ownership.specs.Entries.{shapes_of}
use Rattle.fit_state.proofs.shapes.same_shapes.Given as goal

abbrev pub invariant-each : goal.invariant-each
invariant-each l = same_shapes (shapes_of l.some) (shapes_of l.others) ≡ same_shapes (shapes_of (drop l.index l.some)) (shapes_of (drop l.index l.others))
