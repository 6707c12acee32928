use Rattle.std.proofs.Common.{refl}
use Rattle.fit_tokens.proofs.LogsLemmas.{plain_step}
use Rattle.fit_tokens.proofs.table.plain_changes.Goals as goal

pub each-preserved : goal.each-preserved
each-preserved c = plain_step c.args.logged.now c.each.one-index _ c.each.changes c.push.new.self _ c.each-test.true c.each.invariant refl c.in_ok-push.ensures.ok
