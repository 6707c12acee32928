use Rattle.std.proofs.Common.{◌≡◌, drop}
use Rattle.fits.specs.Places.{old_shapes}
use Rattle.ownership.specs.Entries.{shapes_of}
use Rattle.fit_state.proofs.shapes.old_shapes.Given as goal

abbrev pub invariant-each : goal.invariant-each
invariant-each l = old_shapes l.next (shapes_of l.shapes) ≡ old_shapes l.next (shapes_of (drop l.shape-index l.shapes))
