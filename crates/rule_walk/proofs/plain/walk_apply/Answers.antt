use Rattle.std.proofs.Common.{refl}
use Rattle.rule_check.specs.Check.{check}
use Rattle.rule_check.specs.Steps.{apply_ctx, apply_sure}
use Rattle.rule_steps.specs.States.{ctx_of}
use Rattle.rule_steps.proofs.LoopsLemmas.{if_ok_then}
use Rattle.rule_walk.specs.Walks.{book_in}
use Rattle.rule_walk.proofs.WalkLemmas.{walks_on}
use Rattle.rule_walk.proofs.plain.walk_apply.Goals as goal

pub returns-clause-walked : goal.returns-clause-walked
returns-clause-walked c =
    let book = book_in c.args.book.now in
    let x = ctx_of c.args.state.now in
    let op = c.args.operation.now in
    if_ok_then c.apply.result _ _
    (λ o h rest. walks_on (apply_ctx x op.outs.now op.made op.args.now) (check book rest) (apply_sure book x op.place op.op op.made op.args.now) o (ctx_of c.apply.new.state) (h book refl refl))
    c.apply.ensures.applied
