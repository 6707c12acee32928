use Rattle.std.proofs.Common.{ap, ◌∙◌}
use Rattle.fit_walk.proofs.BeginLemmas.{tokens_step}
use Rattle.fits.specs.Places.{fresh}
use Rattle.fits.specs.Programs as f
use Rattle.fit_walk.proofs.beginning.param_tokens.Goals as goal

pub each-preserved : goal.each-preserved
each-preserved c =
    tokens_step c.args.params.now c.each.param-index c.param-item.result c.each.var c.in_ok-var.var c.each.all c.in_ok-fresh.field-0 c.append.new.self (f.param_tokens c.args.first c.args.params.now)
    c.each-test.true c.param-item.is c.each.invariant (c.in_ok-fresh.ensures ∙ ap (fresh c.each.var) c.param_shape.ensures) c.in_ok-append.ensures c.in_ok-var.ensures
