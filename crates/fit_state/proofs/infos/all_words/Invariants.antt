use Rattle.std.proofs.Common.{◌≡◌, take}
use Rattle.fit_state.specs.Infos.{infos_of}
use Rattle.fit_tokens.specs.Changes.{tokens_of}
use Rattle.fits.specs.Places as f
use Rattle.fit_state.proofs.infos.all_words.Given as goal

abbrev pub invariant-each : goal.invariant-each
invariant-each l = tokens_of l.all ≡ f.all_words (infos_of (take l.info-index l.infos))
