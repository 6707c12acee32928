use Rattle.std.proofs.Common.{◌<◌, ◌≤◌, min, length, arith, drop}
use Rattle.ownership.specs.Entries.{spots_of}
use Rattle.rule_check.specs.Steps.{handed}
use Rattle.proc_rules.proofs.CallsLemmas.{hand_step, handed_past, ends}
use Rattle.proc_rules.proofs.call.handed.Goals as goal

pub each-preserved : goal.each-preserved
each-preserved c =
    let h : c.each.index < length c.args.params.now = omega arith in
    let k : c.each.index < length c.args.entries.now = omega arith in
    hand_step c.args.params.now c.args.entries.now c.each.index c.index-params-index.result _ (spots_of c.each.taken) (spots_of c.hand.new.taken) (handed c.args.params.now (spots_of c.args.entries.now)) h k
    c.index-params-index.is c.in_ok-hand.ensures c.each.invariant

pub returns : goal.returns
returns c =
    let h : min (length c.args.params.now) (length c.args.entries.now) ≤ c.each.index = omega arith in
    ends (spots_of c.each.taken) (handed (drop c.each.index c.args.params.now) (spots_of (drop c.each.index c.args.entries.now))) (handed c.args.params.now (spots_of c.args.entries.now))
    (handed_past c.args.params.now c.args.entries.now c.each.index h) c.each.invariant
