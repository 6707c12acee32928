use Rattle.std.proofs.Common.{◌≡◌, drop}
use Rattle.fits.specs.Places.{hold_words}
use Rattle.fit_tokens.specs.Changes.{toks, tokens_of}
use Rattle.fit_tokens.proofs.table.Tokens.hold.Given as goal

abbrev pub invariant-each : goal.invariant-each
invariant-each l = hold_words (toks l.self) l.regs (tokens_of l.words) ≡ hold_words (toks l.self) (drop l.index l.regs) (tokens_of (drop l.index l.words))
