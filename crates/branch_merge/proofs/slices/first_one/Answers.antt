use Rattle.branch_merge.proofs.PlacesLemmas.{none_one, first_step}
use Rattle.branch_merge.proofs.slices.first_one.Goals as goal

pub each-init : goal.each-init
each-init c = none_one c.args.others.now c.args.context.now.spots

pub each-preserved : goal.each-preserved
each-preserved c = first_step c.args.indices.now c.args.others.now c.each.index-index c.args.context.now.spots c.each.first c.one_sided.result c.earlier-first.result c.each-test.true c.each.invariant c.one_sided.ensures c.earlier-first.ensures
