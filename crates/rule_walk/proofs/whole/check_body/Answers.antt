use Rattle.std.proofs.Common.{refl}
use Rattle.rule_steps.proofs.LoopsLemmas.{if_ok_then}
use Rattle.rule_steps.specs.States.{ctx_of}
use Rattle.rule_walk.specs.Walks.{book_in}
use Rattle.rule_walk.proofs.WholeLemmas.{body_over, body_refused}
use Rattle.rule_walk.proofs.whole.check_body.Goals as goal

pub returns-in-Ok-None : goal.returns-in-Ok-None
returns-in-Ok-None c =
    let book = book_in c.args.book.now in
    let head = c.args.header.now in
    let z = ctx_of c.walk_binds.new.state in
    if_ok_then c.end_body-said.result _ _
    (λ said h. body_over book c.args.first head.params.now head.shown.now c.args.block.now c.as_slice.result.now (ctx_of c.in_ok-state.state) z c.in-Ok-None.field-0
    c.in_ok-state.ensures.context c.as_slice.ensures c.in-Ok-None.ensures.walked said c.in-Ok-None.field-0-is (h book z refl refl))
    c.end_body-said.ensures.ended

pub returns-in-Ok-Some : goal.returns-in-Ok-Some
returns-in-Ok-Some c =
    let head = c.args.header.now in
    body_refused (book_in c.args.book.now) c.args.first head.params.now head.shown.now c.args.block.now c.as_slice.result.now (ctx_of c.in_ok-state.state) (ctx_of c.walk_binds.new.state) c.in-Ok-Some.field-0
    c.in_ok-state.ensures.context c.as_slice.ensures c.in-Ok-Some.ensures.walked c.in-Ok-Some.refusal c.in-Ok-Some.field-0-is
