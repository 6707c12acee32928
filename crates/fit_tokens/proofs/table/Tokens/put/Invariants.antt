use Rattle.std.proofs.Common.{◌≡◌, drop}
use Rattle.fits.specs.Places.{put_tokens}
use Rattle.fit_tokens.specs.Changes.{toks, tokens_of}
use Rattle.fit_tokens.proofs.table.Tokens.put.Given as goal

abbrev pub invariant-each : goal.invariant-each
invariant-each l = record {
  tokens : put_tokens (toks l.initial.self) l.regs (tokens_of l.words) ≡ put_tokens (toks l.self) (drop l.index l.regs) (tokens_of (drop l.index l.words));
  saved : l.self.saved ≡ l.initial.self.saved;
}
