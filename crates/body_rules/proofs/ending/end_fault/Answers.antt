use Rattle.ownership.specs.Entries.{spots_of}
use Rattle.rule_check.specs.Check.{owed}
use Rattle.body_rules.proofs.BodyLemmas.{if_ok_then, left_body, refused_body}
use Rattle.body_rules.proofs.ending.end_fault.Goals as goal

pub returns-in-Some-clause-fault : goal.returns-in-Some-clause-fault
returns-in-Some-clause-fault c =
    refused_body (owed c.args.first c.args.header.now.params.now) c.args.header.now.shown.now (spots_of c.args.results.now) c.args.context.now.spots c.in_ok-fault.field-0 c.in-Some.fault c.in_ok-fault.ensures.fault c.in-Some.is

pub returns-in_ok-slices-in-None-clause-fault : goal.returns-in_ok-slices-in-None-clause-fault
returns-in_ok-slices-in-None-clause-fault c =
    if_ok_then c.left_fault.result _ _
    (λ fault h. left_body (owed c.args.first c.args.header.now.params.now) c.as_slice.result.now c.args.header.now.shown.now (spots_of c.args.results.now) c.args.context.now c.take_results.new.context c.in_ok-fault.field-0 fault
    c.in_ok-fault.ensures.fault c.in-None.is c.in_ok-fault.ensures.taken c.in_ok-slices-in-None.slices c.as_slice.ensures c.in_ok-slices-in-None.ensures h)
    c.left_fault.ensures
