use Rattle.std.proofs.Common.{◌≡◌, take}
use Rattle.fit_tokens.specs.Changes.{changes_of}
use Rattle.fit_tokens.specs.Logs.{logged_of}
use Rattle.fit_tokens.proofs.table.plain_changes.Given as goal

abbrev pub invariant-each : goal.invariant-each
invariant-each l = changes_of l.changes ≡ logged_of (take l.one-index l.logged)
