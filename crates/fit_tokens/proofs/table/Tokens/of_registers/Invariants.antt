use Rattle.std.proofs.Common.{◌≡◌, ℕ, take, []}
use Rattle.fits.specs.Places.{arg_tokens}
use Rattle.fit_tokens.specs.Changes.{toks}
use Rattle.fit_tokens.proofs.table.Tokens.of_registers.Given as goal

abbrev pub invariant-each : goal.invariant-each
invariant-each l = record {
  tokens : (r : ℕ) → toks l.tokens r ≡ arg_tokens (toks l.self) (take l.reg-index l.regs) r;
  saved : l.tokens.saved ≡ [];
  place : l.place ≡ l.reg-index;
}
