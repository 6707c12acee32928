use Rattle.std.proofs.Common.{◌≡◌, ◌++◌, take}
use Rattle.fit_tokens.specs.Changes.{changes_of, seen_at, toks}
use Rattle.fit_tokens.proofs.table.Tokens.note.Given as goal

abbrev pub invariant-each : goal.invariant-each
invariant-each l = changes_of l.noted ≡ changes_of l.initial.noted ++ seen_at (toks l.self) (changes_of (take l.change-index l.changes))
