use Rattle.std.proofs.Common.{◌≡◌, ◌++◌, drop}
use Rattle.fit_tokens.specs.Changes.{tokens_of}
use Rattle.fits.specs.Places as f
use Rattle.ownership.specs.Entries.{shapes_of}
use Rattle.fit_state.proofs.binding.all_fresh.Given as goal

abbrev pub invariant-each : goal.invariant-each
invariant-each l = tokens_of l.all ++ f.all_fresh (drop l.index l.outs) (shapes_of (drop l.index l.shapes)) ≡ f.all_fresh l.outs (shapes_of l.shapes)
