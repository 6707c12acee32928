use Rattle.nres_rules.specs.Flatten.{scoped}
use Rattle.nres_flat.proofs.Lookups.{bound}
use Rattle.nres_flat.proofs.known.bind_all.Goals as goal

pub each-preserved : goal.each-preserved
each-preserved c =
    bound c.args.names.now c.args.args.now c.each.at _ c.each.scope (scoped c.args.names.now c.args.args.now c.args.scope.now) c.bind.new.self
    c.each-test.true c.bytes.ensures c.arg_number.ensures c.each.invariant c.in_ok-bind.ensures
