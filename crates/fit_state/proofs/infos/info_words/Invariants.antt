use Rattle.std.proofs.Common.{◌≡◌, take}
use Rattle.fit_state.specs.Infos.{infos_of, lists_of}
use Rattle.fits.specs.Places as f
use Rattle.fit_state.proofs.infos.info_words.Given as goal

abbrev pub invariant-each : goal.invariant-each
invariant-each l = lists_of l.all ≡ f.infos_words (infos_of (take l.info-index l.infos))
