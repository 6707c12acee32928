use Rattle.std.proofs.Common.{◌≡◌, take}
use Rattle.fit_state.specs.Infos.{infos_of}
use Rattle.fits.specs.Places as f
use Rattle.ownership.specs.Entries.{shapes_of}
use Rattle.fit_state.proofs.infos.info_shapes.Given as goal

abbrev pub invariant-each : goal.invariant-each
invariant-each l = shapes_of l.shapes ≡ f.info_shapes (infos_of (take l.info-index l.infos))
