use Rattle.std.proofs.Common.{◌≡◌, ◌++◌, take}
use Rattle.fit_tokens.specs.Changes.{tokens_of}
use Rattle.fit_state.proofs.infos.append.Given as goal

abbrev pub invariant-each : goal.invariant-each
invariant-each l = tokens_of l.all ≡ tokens_of l.initial.all ++ tokens_of (take l.word-index l.more)
