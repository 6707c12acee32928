use Rattle.ownership.specs.Entries.{spots_of}
use Rattle.rule_check.specs.Context.{vars_of}
use Rattle.rule_steps.proofs.LoopsLemmas.{starts, starts_refused, taken_spots}
use Rattle.rule_steps.proofs.loops.start_loop.Goals as goal

pub returns-in-None-clause-started : goal.returns-in-None-clause-started
returns-in-None-clause-started c = λ book x us names at seen.
    starts book x c.args.place us (spots_of c.args.starts.now) c.args.context.now.spots at seen c.in_ok-take_results.field-0 c.in_ok-take_results.ensures.fault c.take_results.new.context.spots c.in-None.is
    (taken_spots c.in_ok-take_results.field-0 (vars_of (spots_of c.args.starts.now)) c.args.context.now c.take_results.new.context c.in_ok-take_results.ensures.taken c.in-None.is)

pub returns-in_ok-refusal-in-Some-clause-started : goal.returns-in_ok-refusal-in-Some-clause-started
returns-in_ok-refusal-in-Some-clause-started c = λ book x us names at seen.
    starts_refused book x c.args.place us (spots_of c.args.starts.now) c.args.context.now.spots at seen c.in_ok-take_results.field-0 c.in_ok-take_results.ensures.fault
    c.args.names.now c.in-Some.fault c.in_ok-refusal-in-Some.refusal c.take_results.new.context.spots names c.in-Some.is c.in_ok-refusal-in-Some.ensures
