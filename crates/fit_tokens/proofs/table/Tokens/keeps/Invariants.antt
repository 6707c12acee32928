use Rattle.std.proofs.Common.{◌≡◌, drop}
use Rattle.fit_tokens.specs.Changes.{all_kept, changes_of, toks}
use Rattle.fit_tokens.proofs.table.Tokens.keeps.Given as goal

abbrev pub invariant-each : goal.invariant-each
invariant-each l = all_kept (toks l.self) (changes_of l.ends) ≡ all_kept (toks l.self) (changes_of (drop l.end-index l.ends))
