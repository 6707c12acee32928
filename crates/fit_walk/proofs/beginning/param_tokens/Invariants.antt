use Rattle.std.proofs.Common.{◌≡◌, ◌+◌, ◌++◌, drop}
use Rattle.fit_tokens.specs.Changes.{tokens_of}
use Rattle.fits.specs.Programs as f
use Rattle.fit_walk.proofs.beginning.param_tokens.Given as goal

abbrev pub invariant-each : goal.invariant-each
invariant-each l = tokens_of l.all ++ f.param_tokens l.var (drop l.param-index l.params) ≡ f.param_tokens l.first l.params
