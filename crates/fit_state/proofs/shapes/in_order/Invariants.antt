use Rattle.std.proofs.Common.{◌≡◌, drop}
use Rattle.fits.specs.Places.{in_order}
use Rattle.ownership.specs.Entries.{shapes_of}
use Rattle.fit_state.proofs.shapes.in_order.Given as goal

abbrev pub invariant-each : goal.invariant-each
invariant-each l = in_order l.next l.outs (shapes_of l.shapes) ≡ in_order l.bound (drop l.out-index l.outs) (shapes_of (drop l.out-index l.shapes))
