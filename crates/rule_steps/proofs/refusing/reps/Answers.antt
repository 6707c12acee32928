use Rattle.rule_steps.proofs.EndsLemmas.{reps_step}
use Rattle.rule_steps.proofs.refusing.reps.Goals as goal

pub each-preserved : goal.each-preserved
each-preserved c = reps_step c.args.entries.now c.each.entry-index _ c.each.reps c.push.new.self c.each-test.true c.each.invariant c.in_ok-push.ensures.ok
