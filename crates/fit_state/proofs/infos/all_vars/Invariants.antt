use Rattle.std.proofs.Common.{◌≡◌, take}
use Rattle.fit_state.specs.Infos.{infos_of}
use Rattle.fits.specs.Places as f
use Rattle.fit_state.proofs.infos.all_vars.Given as goal

abbrev pub invariant-each : goal.invariant-each
invariant-each l = l.vars ≡ f.all_vars (infos_of (take l.info-index l.infos))
