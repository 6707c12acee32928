use Rattle.nres_rules.specs.Types.{with_types}
use Rattle.nres_types.proofs.Scopes.{with_more}
use Rattle.nres_types.proofs.scope.bind_all.Goals as goal

pub loop-at-preserved : goal.loop-at-preserved
loop-at-preserved c =
    with_more (with_types c.args.names.now c.args.types.now c.args.scope.now) c.loop-at.scope c.bind.new.self c.args.names.now c.args.types.now c.loop-at.at c.index-names-at.result c.bytes.result.now c.type_number.result c.loop-at-test.true c.loop-at.invariant c.bytes.ensures c.type_number.ensures c.in_ok-bind.ensures
