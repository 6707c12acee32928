use Rattle.std.proofs.Common.{◌≡◌, ◌++◌, drop}
use Rattle.fit_state.specs.Infos.{lists_of}
use Rattle.fit_tokens.specs.Changes.{tokens_of}
use Rattle.fits.specs.Follow.{joined_words}
use Rattle.fit_steps.proofs.words.joined_words.Given as goal

abbrev pub invariant-each : goal.invariant-each
invariant-each l = tokens_of l.all ++ joined_words (lists_of (drop l.list-index l.lists)) ≡ joined_words (lists_of l.lists)
