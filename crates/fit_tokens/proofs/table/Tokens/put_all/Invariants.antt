use Rattle.std.proofs.Common.{◌≡◌, take}
use Rattle.fit_tokens.specs.Changes.{changes_of, with_changes}
use Rattle.fit_tokens.proofs.table.Tokens.put_all.Given as goal

abbrev pub invariant-each : goal.invariant-each
invariant-each l = l.self ≡ with_changes l.initial.self (changes_of (take l.change-index l.changes))
