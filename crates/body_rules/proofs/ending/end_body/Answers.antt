use Rattle.body_rules.proofs.BodyLemmas.{body_passes, body_refuses}
use Rattle.body_rules.proofs.ending.end_body.Goals as goal

pub returns-in-None-clause-ended : goal.returns-in-None-clause-ended
returns-in-None-clause-ended c = λ book x m p.
    body_passes book c.args.first c.args.header.now.params.now c.args.header.now.shown.now x c.args.block.now c.in_ok-results.results c.as_slice-2.result.now c.as_slice.result.now c.args.context.now.spots c.in_ok-end_fault.field-0
    p c.as_slice.ensures c.in_ok-results.ensures c.as_slice-2.ensures c.in_ok-end_fault.ensures.fault c.in-None.is

pub returns-clause-ended : goal.returns-clause-ended
returns-clause-ended c = λ book x m p.
    body_refuses book c.args.first c.args.header.now.params.now c.args.header.now.shown.now x c.args.block.now c.in_ok-results.results c.as_slice-2.result.now c.as_slice.result.now c.args.context.now.spots c.in_ok-end_fault.field-0
    p c.as_slice.ensures c.in_ok-results.ensures c.as_slice-2.ensures c.in_ok-end_fault.ensures.fault
    c.args.names.now c.in-Some.fault c.as_slice-in-Some.result.now c.in_ok-refusal-in-Some.refusal m c.in-Some.is c.as_slice-in-Some.ensures c.in_ok-refusal-in-Some.ensures
