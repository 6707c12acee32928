use Rattle.std.proofs.Common.{sym, ap}
use Rattle.context_laws.specs.Steps.{with_spots}
use Rattle.ownership.proofs.StepsLemmas.{none_go, go_step}
use Rattle.ownership.proofs.args.go_all.Goals as goal

pub each-init : goal.each-init
each-init c = sym (ap (with_spots c.args.context.now) (none_go c.args.context.now.spots))

pub each-preserved : goal.each-preserved
each-preserved c = go_step c.args.entries.now c.each.entry-index _ c.args.context.now c.each.context c.go_one.new.context c.each-test.true c.each.invariant c.in_ok-go_one.ensures.ok
