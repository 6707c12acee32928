use Rattle.std.proofs.Common.{◌≡◌, drop}
use Rattle.fit_tokens.specs.Changes.{agreed, changes_of, toks}
use Rattle.fit_tokens.proofs.table.Tokens.agree.Given as goal

abbrev pub invariant-each : goal.invariant-each
invariant-each l = record {
  tokens : agreed (toks l.initial.self) (changes_of l.others) ≡ agreed (toks l.self) (changes_of (drop l.other-index l.others));
  saved : l.self.saved ≡ l.initial.self.saved;
}
