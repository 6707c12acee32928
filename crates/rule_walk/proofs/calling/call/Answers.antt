use Rattle.std.proofs.Common.{refl}
use Rattle.std.specs.Prelude.{None, Some}
use Rattle.proc_rules.specs.Calls.{sig_seen}
use Rattle.rule_check.specs.Check.{check}
use Rattle.rule_check.specs.Steps.{call_ctx, call_sure, with_spots}
use Rattle.rule_steps.specs.States.{ctx_of}
use Rattle.rule_walk.specs.Walks.{book_in}
use Rattle.rule_walk.proofs.WalkLemmas.{call_passes, call_refuses, walks_on}
use Rattle.rule_walk.proofs.calling.call.Goals as goal

pub returns-in-None-clause-walked : goal.returns-in-None-clause-walked
returns-in-None-clause-walked c = λ rest.
    let book = book_in c.args.book.now in
    let s = c.args.state.now in
    let x = ctx_of s in
    let k = c.args.calling.now in
    walks_on (call_ctx x k.outs.now k.args.now) (check book rest) (call_sure book x k.place k.fun k.args.now) None (with_spots x c.enter.new.context.spots)
    (call_passes book x s.context.saved k.place k.fun k.args.now k.outs.now (sig_seen c.sig_in-sig.result) c.enter.new.context c.in_ok-entries.entries c.as_slice.result.now c.in_ok-enter.field-0
    c.sig_in-sig.ensures c.in_ok-entries.ensures c.as_slice.ensures c.in_ok-enter.ensures.fault c.in-None.is c.in_ok-enter.ensures.after)

pub returns-clause-walked : goal.returns-clause-walked
returns-clause-walked c = λ rest.
    let book = book_in c.args.book.now in
    let s = c.args.state.now in
    let x = ctx_of s in
    let k = c.args.calling.now in
    walks_on (call_ctx x k.outs.now k.args.now) (check book rest) (call_sure book x k.place k.fun k.args.now) (Some c.in_ok-refusal-in-Some.refusal) x
    (call_refuses book x s.context.saved k.place k.fun k.args.now k.outs.now (sig_seen c.sig_in-sig.result) c.args.book.now.names.now c.in_ok-entries.entries c.as_slice.result.now c.as_slice-in-Some.result.now c.in_ok-enter.field-0 c.in-Some.fault c.in_ok-refusal-in-Some.refusal x
    refl c.sig_in-sig.ensures c.in_ok-entries.ensures c.as_slice.ensures c.as_slice-in-Some.ensures c.in_ok-enter.ensures.fault c.in-Some.is c.in_ok-refusal-in-Some.ensures)
