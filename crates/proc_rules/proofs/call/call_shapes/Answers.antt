use Rattle.ownership.specs.Entries.{shapes_of}
use Rattle.rule_check.specs.Steps.{call_shapes}
use Rattle.proc_rules.proofs.CallsLemmas.{shape_step}
use Rattle.proc_rules.proofs.call.call_shapes.Goals as goal

pub each-preserved : goal.each-preserved
each-preserved c =
    shape_step c.args.outs.now c.each.rep-index _ c.each.shapes c.push.new.self c.shape_for.result (shapes_of c.each.left.now) (shapes_of c.lists_after-left.result.now) (call_shapes c.args.outs.now (shapes_of c.args.lists.now))
    c.each-test.true c.in_ok-push.ensures.ok c.shape_for.ensures c.lists_after-left.ensures c.each.invariant
