use Rattle.std.proofs.Common.{◌≡◌, ◌++◌, drop}
use Rattle.fit_state.specs.Infos.{infos_of, lists_of}
use Rattle.fits.specs.Follow.{list_words}
use Rattle.fit_steps.proofs.words.list_words.Given as goal

abbrev pub invariant-each : goal.invariant-each
invariant-each l = lists_of l.lists ++ list_words (drop l.index l.params) (infos_of (drop l.index l.infos)) ≡ list_words l.params (infos_of l.infos)
