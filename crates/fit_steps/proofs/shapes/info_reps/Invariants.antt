use Rattle.std.proofs.Common.{◌≡◌, ◌++◌, drop}
use Rattle.fit_state.specs.Infos.{infos_of}
use Rattle.fits.specs.Places.{info_reps}
use Rattle.fit_steps.proofs.shapes.info_reps.Given as goal

abbrev pub invariant-each : goal.invariant-each
invariant-each l = l.reps ++ info_reps (infos_of (drop l.info-index l.infos)) ≡ info_reps (infos_of l.infos)
