use Rattle.std.proofs.Common.{◌≡◌, ℕ, take, []}
use Rattle.fits.specs.Follow.{nth_token}
use Rattle.fit_tokens.specs.Changes.{toks, tokens_of}
use Rattle.fit_tokens.proofs.table.Tokens.of_words.Given as goal

abbrev pub invariant-each : goal.invariant-each
invariant-each l = record {
  tokens : (r : ℕ) → toks l.tokens r ≡ nth_token r (tokens_of (take l.word-index l.words));
  saved : l.tokens.saved ≡ [];
  place : l.reg ≡ l.word-index;
}
