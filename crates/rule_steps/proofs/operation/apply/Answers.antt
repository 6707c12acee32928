use Rattle.rule_steps.specs.States.{ctx_of}
use Rattle.rule_steps.proofs.RowsLemmas.{apply_passes, apply_refuses}
use Rattle.rule_steps.proofs.operation.apply.Goals as goal

pub returns-in-None-clause-applied : goal.returns-in-None-clause-applied
returns-in-None-clause-applied c = λ book names rows.
    let s = c.args.state.now in
    let op = c.args.operation.now in
    apply_passes book (ctx_of s) s.context.saved op.place op.op op.made op.args.now op.outs.now c.take.new.context c.in_ok-entries.entries c.as_slice.result.now c.in_ok-take.field-0
    rows c.in_ok-entries.ensures c.as_slice.ensures c.in_ok-take.ensures.fault c.in-None.is c.in_ok-take.ensures.after

pub returns-clause-applied : goal.returns-clause-applied
returns-clause-applied c = λ book names rows.
    let s = c.args.state.now in
    let op = c.args.operation.now in
    apply_refuses book (ctx_of s) s.context.saved op.place op.op op.made op.args.now op.outs.now c.args.names.now c.word_of-word.result.now c.in_ok-entries.entries c.as_slice.result.now c.as_slice-in-Some.result.now c.in_ok-take.field-0 c.in-Some.fault c.in_ok-refusal-in-Some.refusal
    names rows c.in_ok-entries.ensures c.as_slice.ensures c.as_slice-in-Some.ensures c.word_of-word.ensures c.in_ok-take.ensures.fault c.in-Some.is c.in_ok-refusal-in-Some.ensures
