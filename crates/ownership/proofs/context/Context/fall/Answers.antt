use Rattle.std.proofs.Common.{sym, ap}
use Rattle.context_laws.proofs.StacksLemmas.{none_fall}
use Rattle.context_laws.specs.Steps.{with_spots}
use Rattle.ownership.proofs.ContextLemmas.{fall_step}
use Rattle.ownership.proofs.context.Context.fall.Goals as goal

pub each-init : goal.each-init
each-init c = sym (ap (with_spots c.args.self.now) (none_fall c.args.self.now.spots))

pub each-preserved : goal.each-preserved
each-preserved c = fall_step c.args.indices.now c.each.index-index c.args.self.now c.each.self c.go_at.new.self c.each-test.true c.each.invariant c.in_ok-go_at.ensures.ok
