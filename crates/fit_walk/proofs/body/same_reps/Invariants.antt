use Rattle.std.proofs.Common.{◌≡◌, drop}
use Rattle.fit_state.specs.Infos.{infos_of}
use Rattle.fits.specs.Places.{info_reps}
use Rattle.fits.specs.Programs as f
use Rattle.fit_walk.proofs.body.same_reps.Given as goal

abbrev pub invariant-each : goal.invariant-each
invariant-each l = f.same_reps (info_reps (infos_of l.infos)) l.shown ≡ f.same_reps (info_reps (infos_of (drop l.index l.infos))) (drop l.index l.shown)
