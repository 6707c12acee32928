use Rattle.std.proofs.Common.{◌∙◌}
use Rattle.nres_flat.proofs.Lookups.{next_number, next_name}
use Rattle.nres_flat.proofs.names.Names.bind_all.Goals as goal

pub each-preserved : goal.each-preserved
each-preserved c = (
  c.in_ok-push.ensures.ok ∙ next_number c.args.names.now c.each.item-index c.args.self.now c.each-test.true c.item-item.is c.each.invariant.0 c.each.invariant.1 c.in_ok-bind.ensures.number,
  c.in_ok-bind.ensures.names ∙ next_name c.args.names.now c.each.item-index c.args.self.now c.each-test.true c.item-item.is c.each.invariant.1,
)
