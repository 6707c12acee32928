use Rattle.fit_tokens.specs.Changes.{tokens_of}
use Rattle.fit_state.proofs.InfosLemmas.{append_step}
use Rattle.fit_state.proofs.infos.append.Goals as goal

pub each-preserved : goal.each-preserved
each-preserved c = append_step c.args.more.now c.each.word-index _ c.each.all c.push.new.self (tokens_of c.args.all.now) c.each-test.true c.each.invariant c.in_ok-push.ensures.ok
