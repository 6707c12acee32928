use Rattle.std.proofs.Common.{[]}
use Rattle.nres_core.specs.Mirror.{named_params}
use Rattle.nres_rules.specs.Types.{twice}
use Rattle.nres_types.proofs.Entries.{params_fresh, params_has, params_again, params_none}
use Rattle.nres_types.proofs.patterns.twice_params.Goals as goal

pub loop-param-preserved : goal.loop-param-preserved
loop-param-preserved c = record {
  rest = params_fresh c.loop-param.seen (twice [] (named_params c.args.params.now)) c.args.params.now c.loop-param.param-index c.param-item.result c.bytes.result c.in_ok-fault.fault c.is_some.result c.loop-param-test.true c.param-item.is c.bytes.ensures c.loop-param.invariant.rest c.loop-param.invariant.has c.in_ok-fault.ensures.fault c.is_some.ensures c.if-is_some.false;
  has = params_has c.loop-param.seen c.again.new.seen c.args.params.now c.loop-param.param-index c.param-item.result c.bytes.result c.loop-param-test.true c.param-item.is c.bytes.ensures c.loop-param.invariant.has c.in_ok-fault.ensures.seen;
}

pub returns-then-is_some : goal.returns-then-is_some
returns-then-is_some c = params_again c.loop-param.seen (twice [] (named_params c.args.params.now)) c.args.params.now c.loop-param.param-index c.param-item.result c.bytes.result c.in_ok-fault.fault c.is_some.result c.loop-param-test.true c.param-item.is c.bytes.ensures c.loop-param.invariant.rest c.loop-param.invariant.has c.in_ok-fault.ensures.fault c.is_some.ensures c.if-is_some.true

pub returns : goal.returns
returns c = params_none (twice [] (named_params c.args.params.now)) c.args.params.now c.loop-param.param-index c.loop-param-test.false c.loop-param.invariant.rest
