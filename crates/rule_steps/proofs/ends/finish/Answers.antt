use Rattle.std.specs.Prelude.{Ok, Err}
use Rattle.ownership.specs.Entries.{spots_of}
use Rattle.rule_steps.specs.Ends.{moved_as}
use Rattle.rule_steps.proofs.LoopsLemmas.{block_results}
use Rattle.rule_steps.proofs.EndsLemmas.{at_ending, end_of, finish_passes, finish_refuses}
use Rattle.rule_steps.proofs.ends.finish.Goals as goal

pub returns-in-None-clause-ended : goal.returns-in-None-clause-ended
returns-in-None-clause-ended c = λ book x m p.
    at_ending book c.args.count c.args.owed x c.args.block.now (moved_as (Ok c.in_ok-results.results) c.end_fault.new.context.spots)
    (finish_passes book c.args.count c.args.owed x (end_of c.args.block.now) c.in_ok-results.results c.as_slice-2.result.now c.as_slice.result.now c.args.context.now.spots c.end_fault.new.context.spots c.in_ok-end_fault.field-0
    p c.as_slice.ensures c.in_ok-results.ensures c.as_slice-2.ensures c.in_ok-end_fault.ensures.fault c.in-None.is (c.in_ok-end_fault.ensures.moved c.in-None.is))

pub returns-in_ok-refusal-in-Some-clause-ended : goal.returns-in_ok-refusal-in-Some-clause-ended
returns-in_ok-refusal-in-Some-clause-ended c = λ book x m p.
    at_ending book c.args.count c.args.owed x c.args.block.now (moved_as (Err c.in_ok-refusal-in-Some.refusal) c.end_fault.new.context.spots)
    (finish_refuses book c.args.count c.args.owed x (end_of c.args.block.now) c.in_ok-results.results c.as_slice-2.result.now c.as_slice-in-Some.result.now c.as_slice.result.now c.args.context.now.spots c.end_fault.new.context.spots c.in-Some.fault c.in_ok-end_fault.field-0 c.args.names.now c.in_ok-refusal-in-Some.refusal
    m p c.as_slice.ensures c.in_ok-results.ensures c.as_slice-2.ensures c.as_slice-in-Some.ensures c.in_ok-end_fault.ensures.fault c.in-Some.is c.in_ok-refusal-in-Some.ensures)

pub returns-in-None-clause-results : goal.returns-in-None-clause-results
returns-in-None-clause-results c =
    block_results c.args.block.now c.as_slice.result.now (spots_of c.in_ok-results.results) c.args.context.now.spots c.as_slice.ensures c.in_ok-results.ensures
