use Rattle.std.proofs.Common.{◌≡◌, drop}
use Rattle.fit_tokens.specs.Changes.{toks}
use Rattle.fit_tokens.proofs.ChangesLemmas.{forgotten}
use Rattle.fit_tokens.proofs.table.Tokens.forget.Given as goal

abbrev pub invariant-each : goal.invariant-each
invariant-each l = record {
  tokens : forgotten (toks l.initial.self) l.regs ≡ forgotten (toks l.self) (drop l.reg-index l.regs);
  saved : l.self.saved ≡ l.initial.self.saved;
}
