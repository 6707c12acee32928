use Rattle.std.proofs.Common.{◌∙◌, ap, arith}
use Rattle.fits.specs.Places.{tokens_from}
use Rattle.fit_state.proofs.BindLemmas.{fresh_step, fresh_end}
use Rattle.fit_state.proofs.binding.fresh.Goals as goal

pub each-preserved : goal.each-preserved
each-preserved c = fresh_step c.args.var c.width-width.result c.each.index c.each.words c.push.new.self c.each-test.true c.each.invariant c.in_ok-push.ensures.ok

pub returns : goal.returns
returns c = fresh_end c.args.var c.width-width.result c.each.index c.each.words (omega arith) c.each.invariant ∙ ap (tokens_from c.args.var 0) c.width-width.ensures
