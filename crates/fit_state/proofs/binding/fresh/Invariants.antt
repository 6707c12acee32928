use Rattle.std.proofs.Common.{◌≡◌, ◌++◌, ◌-◌}
use Rattle.fit_tokens.specs.Changes.{tokens_of}
use Rattle.fits.specs.Places.{tokens_from}
use Rattle.fit_state.proofs.binding.fresh.Given as goal

abbrev pub invariant-each : goal.invariant-each
invariant-each l = tokens_of l.words ++ tokens_from l.var l.index (l.width - l.index) ≡ tokens_from l.var 0 l.width
