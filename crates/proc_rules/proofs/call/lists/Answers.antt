use Rattle.std.proofs.Common.{◌<◌, ◌≤◌, min, length, arith, drop}
use Rattle.ownership.specs.Entries.{shapes_of, spots_of}
use Rattle.rule_check.specs.Steps.{lists}
use Rattle.proc_rules.proofs.CallsLemmas.{list_step, lists_past, ends}
use Rattle.proc_rules.proofs.call.lists.Goals as goal

pub each-preserved : goal.each-preserved
each-preserved c =
    let h : c.each.index < length c.args.params.now = omega arith in
    let k : c.each.index < length c.args.entries.now = omega arith in
    list_step c.args.params.now c.args.entries.now c.each.index c.index-params-index.result _ (shapes_of c.each.lists) (shapes_of c.list.new.lists) (lists c.args.params.now (spots_of c.args.entries.now)) h k
    c.index-params-index.is c.in_ok-list.ensures c.each.invariant

pub returns : goal.returns
returns c =
    let h : min (length c.args.params.now) (length c.args.entries.now) ≤ c.each.index = omega arith in
    ends (shapes_of c.each.lists) (lists (drop c.each.index c.args.params.now) (spots_of (drop c.each.index c.args.entries.now))) (lists c.args.params.now (spots_of c.args.entries.now))
    (lists_past c.args.params.now c.args.entries.now c.each.index h) c.each.invariant
