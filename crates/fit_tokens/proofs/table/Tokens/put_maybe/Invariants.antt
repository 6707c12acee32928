use Rattle.std.proofs.Common.{◌≡◌, drop}
use Rattle.fits.specs.Follow.{put_maybe}
use Rattle.fit_tokens.specs.Changes.{toks, options_of}
use Rattle.fit_tokens.proofs.table.Tokens.put_maybe.Given as goal

abbrev pub invariant-each : goal.invariant-each
invariant-each l = record {
  tokens : put_maybe (toks l.initial.self) l.regs (options_of l.words) ≡ put_maybe (toks l.self) (drop l.index l.regs) (options_of (drop l.index l.words));
  saved : l.self.saved ≡ l.initial.self.saved;
}
