use Rattle.fit_tokens.proofs.ChangesLemmas.{put_all_none, put_all_step}
use Rattle.fit_tokens.proofs.table.Tokens.put_all.Goals as goal

pub each-init : goal.each-init
each-init c = put_all_none c.args.self.now

pub each-preserved : goal.each-preserved
each-preserved c = put_all_step c.args.changes.now c.each.change-index _ c.args.self.now c.each.self c.set.new.self c.each-test.true c.each.invariant c.in_ok-set.ensures.ok
