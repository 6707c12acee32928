use Rattle.std.proofs.Common.{rules, arith, ◌≡◌, ◌<◌, ◌≤◌, ◌-◌, ◌+◌, [], ◌∷◌, ◌++◌, length, cond, true, false, ap, ◌∙◌, sym, refl, subst}
use Rattle.nres_core.specs.declared.tree.Body.TheVariants as bodies
use Rattle.nres_core.specs.declared.tree.Step.TheVariants as kinds
use Rattle.nres_syntax.specs.Bodies.{inner, named_to}
use Rattle.nres_automaton.specs.Cursor.{left}
use Rattle.nres_automaton.specs.Automaton.{Mode, Reads, pass, leave, body, steps, whole, whole_atom, block_to, results, others, call_body}
use Rattle.nres_automaton.specs.declared.lexeme.Fixed.TheVariants as fixed
use Rattle.nres_automaton.proofs.Going as going
use Rattle.nres_automaton.proofs.Going.{◌then◌, ◌fails◌, exits, passes, took}
use Rattle.nres_automaton.proofs.Exprs as exprs
use Rattle.nres_automaton.proofs.Items as items
use Rattle.nres_syntax.proofs.Blocks as blocks
use Rattle.nres_syntax.proofs.block.+block.Goals as goal

pub if_body-returns-in_err-test-clause-reads : goal.if_body-returns-in_err-test-clause-reads
if_body-returns-in_err-test-clause-reads t c = exits _ _ _ c.from_residual.ensures.1 (λ n k. c.in_err-test.ensures.reads n _)

pub if_body-returns-in_err-yes-clause-reads : goal.if_body-returns-in_err-yes-clause-reads
if_body-returns-in_err-yes-clause-reads t c = exits _ _ _ c.from_residual-in_err-yes.ensures.1 (λ n k. c.in_ok-test.ensures.reads _ fails c.in_err-yes.ensures.reads n _)

pub if_body-returns-in_err-no-clause-reads : goal.if_body-returns-in_err-no-clause-reads
if_body-returns-in_err-no-clause-reads t c = exits _ _ _ c.from_residual-in_err-no.ensures.1 (λ n k. c.in_ok-test.ensures.reads _ then c.in_ok-yes.ensures.reads _ fails c.in_err-no.ensures.reads n _)

pub if_body-returns-clause-reads : goal.if_body-returns-clause-reads
if_body-returns-clause-reads t c = λ k. c.in_ok-test.ensures.reads _ then c.in_ok-yes.ensures.reads _ then c.in_ok-no.ensures.reads _

pub while_body-returns-in_err-vars-clause-reads : goal.while_body-returns-in_err-vars-clause-reads
while_body-returns-in_err-vars-clause-reads t c = exits _ _ _ c.from_residual.ensures.1 (λ n k. c.in_err-vars.ensures.reads n (λ y. results (λ es. pass fixed.If (λ _. whole (λ e. pass fixed.Do (λ _. block_to fixed.End (λ z. k (bodies.While c.args.place y.names y.place es e z))))))))

pub while_body-returns-in_err-starts-clause-reads : goal.while_body-returns-in_err-starts-clause-reads
while_body-returns-in_err-starts-clause-reads t c = exits _ _ _ c.from_residual-in_err-starts.ensures.1 (λ n k. c.in_ok-vars.ensures.reads (λ y. results (λ es. pass fixed.If (λ _. whole (λ e. pass fixed.Do (λ _. block_to fixed.End (λ z. k (bodies.While c.args.place y.names y.place es e z))))))) fails c.in_err-starts.ensures.reads n _)

pub while_body-returns-in_err-test-clause-reads : goal.while_body-returns-in_err-test-clause-reads
while_body-returns-in_err-test-clause-reads t c = exits _ _ _ c.from_residual-in_err-test.ensures.1 (λ n k. c.in_ok-vars.ensures.reads (λ y. results (λ es. pass fixed.If (λ _. whole (λ e. pass fixed.Do (λ _. block_to fixed.End (λ z. k (bodies.While c.args.place y.names y.place es e z))))))) then c.in_ok-starts.ensures.reads _ fails c.in_err-test.ensures.reads n _)

pub while_body-returns-in_err-turn-clause-reads : goal.while_body-returns-in_err-turn-clause-reads
while_body-returns-in_err-turn-clause-reads t c = exits _ _ _ c.from_residual-in_err-turn.ensures.1 (λ n k. c.in_ok-vars.ensures.reads (λ y. results (λ es. pass fixed.If (λ _. whole (λ e. pass fixed.Do (λ _. block_to fixed.End (λ z. k (bodies.While c.args.place y.names y.place es e z))))))) then c.in_ok-starts.ensures.reads _ then c.in_ok-test.ensures.reads _ fails c.in_err-turn.ensures.reads n _)

pub while_body-returns-clause-reads : goal.while_body-returns-clause-reads
while_body-returns-clause-reads t c = λ k. c.in_ok-vars.ensures.reads (λ y. results (λ es. pass fixed.If (λ _. whole (λ e. pass fixed.Do (λ _. block_to fixed.End (λ z. k (bodies.While c.args.place y.names y.place es e z))))))) then c.in_ok-starts.ensures.reads _ then c.in_ok-test.ensures.reads _ then c.in_ok-turn.ensures.reads _

pub par_body-returns-in_err-first-clause-reads : goal.par_body-returns-in_err-first-clause-reads
par_body-returns-in_err-first-clause-reads t c = exits _ _ _ c.from_residual.ensures.1 (λ n k. c.in_err-first.ensures.reads n _)

pub par_body-returns-in_err-second-clause-reads : goal.par_body-returns-in_err-second-clause-reads
par_body-returns-in_err-second-clause-reads t c = exits _ _ _ c.from_residual-in_err-second.ensures.1 (λ n k. c.in_ok-first.ensures.reads _ fails c.in_err-second.ensures.reads n _)

pub par_body-returns-clause-reads : goal.par_body-returns-clause-reads
par_body-returns-clause-reads t c = λ k. c.in_ok-first.ensures.reads _ then c.in_ok-second.ensures.reads _

pub either_body-returns-in_err-first-clause-reads : goal.either_body-returns-in_err-first-clause-reads
either_body-returns-in_err-first-clause-reads t c = exits _ _ _ c.from_residual.ensures.1 (λ n k. c.in_err-first.ensures.reads n _)

pub either_body-returns-in_err-second-clause-reads : goal.either_body-returns-in_err-second-clause-reads
either_body-returns-in_err-second-clause-reads t c = exits _ _ _ c.from_residual-in_err-second.ensures.1 (λ n k. c.in_ok-first.ensures.reads _ fails c.in_err-second.ensures.reads n _)

pub either_body-returns-clause-reads : goal.either_body-returns-clause-reads
either_body-returns-clause-reads t c = λ k. c.in_ok-first.ensures.reads _ then c.in_ok-second.ensures.reads _

pub split_body-returns-in_err-list-clause-reads : goal.split_body-returns-in_err-list-clause-reads
split_body-returns-in_err-list-clause-reads t c = exits _ _ _ c.from_residual.ensures.1 (λ n k. c.in_err-list.ensures.reads n _)

pub split_body-returns-in_err-at-clause-reads : goal.split_body-returns-in_err-at-clause-reads
split_body-returns-in_err-at-clause-reads t c = exits _ _ _ c.from_residual-in_err-at.ensures.1 (λ n k. c.in_ok-list.ensures.reads _ fails c.in_err-at.ensures.reads n _)

pub split_body-returns-in_err-first-clause-reads : goal.split_body-returns-in_err-first-clause-reads
split_body-returns-in_err-first-clause-reads t c = exits _ _ _ c.from_residual-in_err-first.ensures.1 (λ n k. c.in_ok-list.ensures.reads _ then c.in_ok-at.ensures.reads _ fails c.in_err-first.ensures.reads n (λ y. named_to fixed.End (λ t z. k (bodies.Split c.args.place c.in_ok-list.list c.in_ok-at.at y.name y.block t z))))

pub split_body-returns-in_err-second-clause-reads : goal.split_body-returns-in_err-second-clause-reads
split_body-returns-in_err-second-clause-reads t c = exits _ _ _ c.from_residual-in_err-second.ensures.1 (λ n k. c.in_ok-list.ensures.reads _ then c.in_ok-at.ensures.reads _ then c.in_ok-first.ensures.reads (λ y. named_to fixed.End (λ t z. k (bodies.Split c.args.place c.in_ok-list.list c.in_ok-at.at y.name y.block t z))) fails c.in_err-second.ensures.reads n (λ z. k (bodies.Split c.args.place c.in_ok-list.list c.in_ok-at.at c.in_ok-first.first.name c.in_ok-first.first.block z.name z.block)))

pub split_body-returns-clause-reads : goal.split_body-returns-clause-reads
split_body-returns-clause-reads t c = λ k. c.in_ok-list.ensures.reads _ then c.in_ok-at.ensures.reads _ then c.in_ok-first.ensures.reads (λ y. named_to fixed.End (λ t z. k (bodies.Split c.args.place c.in_ok-list.list c.in_ok-at.at y.name y.block t z))) then c.in_ok-second.ensures.reads (λ z. k (bodies.Split c.args.place c.in_ok-list.list c.in_ok-at.at c.in_ok-first.first.name c.in_ok-first.first.block z.name z.block))

pub foreach_body-returns-in_err-head-clause-reads : goal.foreach_body-returns-in_err-head-clause-reads
foreach_body-returns-in_err-head-clause-reads t c = exits _ _ _ c.from_residual.ensures.1 (λ n k. c.in_err-head.ensures.reads n (λ y. others [] (λ xs. pass fixed.From (λ _. results (λ es. pass fixed.Do (λ _. block_to fixed.End (λ z. k (bodies.Foreach c.args.place y.var y.list xs y.place es z))))))))

pub foreach_body-returns-in_err-vars-clause-reads : goal.foreach_body-returns-in_err-vars-clause-reads
foreach_body-returns-in_err-vars-clause-reads t c = exits _ _ _ c.from_residual-in_err-vars.ensures.1 (λ n k. c.in_ok-head.ensures.reads (λ y. others [] (λ xs. pass fixed.From (λ _. results (λ es. pass fixed.Do (λ _. block_to fixed.End (λ z. k (bodies.Foreach c.args.place y.var y.list xs y.place es z))))))) then items.others_as c.new.ensures fails c.in_err-vars.ensures.reads n _)

pub foreach_body-returns-in_err-pass-clause-reads : goal.foreach_body-returns-in_err-pass-clause-reads
foreach_body-returns-in_err-pass-clause-reads t c = exits _ _ _ c.from_residual-in_err-pass.ensures.1 (λ n k. c.in_ok-head.ensures.reads (λ y. others [] (λ xs. pass fixed.From (λ _. results (λ es. pass fixed.Do (λ _. block_to fixed.End (λ z. k (bodies.Foreach c.args.place y.var y.list xs y.place es z))))))) then items.others_as c.new.ensures then c.in_ok-vars.ensures.reads _ fails going.passed_not c.in_err-pass.ensures)

pub foreach_body-returns-in_err-starts-clause-reads : goal.foreach_body-returns-in_err-starts-clause-reads
foreach_body-returns-in_err-starts-clause-reads t c = exits _ _ _ c.from_residual-in_err-starts.ensures.1 (λ n k. c.in_ok-head.ensures.reads (λ y. others [] (λ xs. pass fixed.From (λ _. results (λ es. pass fixed.Do (λ _. block_to fixed.End (λ z. k (bodies.Foreach c.args.place y.var y.list xs y.place es z))))))) then items.others_as c.new.ensures then c.in_ok-vars.ensures.reads _ then going.passed c.in_ok-pass.ensures fails c.in_err-starts.ensures.reads n _)

pub foreach_body-returns-in_err-turn-clause-reads : goal.foreach_body-returns-in_err-turn-clause-reads
foreach_body-returns-in_err-turn-clause-reads t c = exits _ _ _ c.from_residual-in_err-turn.ensures.1 (λ n k. c.in_ok-head.ensures.reads (λ y. others [] (λ xs. pass fixed.From (λ _. results (λ es. pass fixed.Do (λ _. block_to fixed.End (λ z. k (bodies.Foreach c.args.place y.var y.list xs y.place es z))))))) then items.others_as c.new.ensures then c.in_ok-vars.ensures.reads _ then going.passed c.in_ok-pass.ensures then c.in_ok-starts.ensures.reads _ fails c.in_err-turn.ensures.reads n _)

pub foreach_body-returns-clause-reads : goal.foreach_body-returns-clause-reads
foreach_body-returns-clause-reads t c = λ k. c.in_ok-head.ensures.reads (λ y. others [] (λ xs. pass fixed.From (λ _. results (λ es. pass fixed.Do (λ _. block_to fixed.End (λ z. k (bodies.Foreach c.args.place y.var y.list xs y.place es z))))))) then items.others_as c.new.ensures then c.in_ok-vars.ensures.reads _ then going.passed c.in_ok-pass.ensures then c.in_ok-starts.ensures.reads _ then c.in_ok-turn.ensures.reads _

pub named_block-returns-in_err-found-clause-reads : goal.named_block-returns-in_err-found-clause-reads
named_block-returns-in_err-found-clause-reads t c = exits _ _ _ c.from_residual.ensures.1 (λ n k. c.in_err-found.ensures.reads n _)

pub named_block-returns-in_err-inner-clause-reads : goal.named_block-returns-in_err-inner-clause-reads
named_block-returns-in_err-inner-clause-reads t c = exits _ _ _ c.from_residual-in_err-inner.ensures.1 (λ n k. c.in_ok-found.ensures.reads _ fails c.in_err-inner.ensures.reads n _)

pub named_block-returns-clause-reads : goal.named_block-returns-clause-reads
named_block-returns-clause-reads t c = λ k. c.in_ok-found.ensures.reads _ then c.in_ok-inner.ensures.reads _

pub block_to-returns-in_err-found-clause-reads : goal.block_to-returns-in_err-found-clause-reads
block_to-returns-in_err-found-clause-reads t c = exits _ _ _ c.from_residual.ensures.1 (λ n k. c.in_err-found.ensures.reads n _)

pub block_to-returns-in_err-pass-clause-reads : goal.block_to-returns-in_err-pass-clause-reads
block_to-returns-in_err-pass-clause-reads t c = exits _ _ _ c.from_residual-in_err-pass.ensures.1 (λ n k. c.in_ok-found.ensures.reads _ fails going.passed_not c.in_err-pass.ensures)

pub block_to-returns-clause-reads : goal.block_to-returns-clause-reads
block_to-returns-clause-reads t c = λ k. c.in_ok-found.ensures.reads _ then going.passed c.in_ok-pass.ensures

pub opened-returns-in-If-clause-reads : goal.opened-returns-in-If-clause-reads
opened-returns-in-If-clause-reads t c = subst (λ z. Reads c.args.room (inner z c.args.place) (left c.args.cursor.now) c.if_body.result (left c.if_body.new.cursor)) (sym c.in-If.is) c.if_body.ensures.reads

pub opened-returns-in-While-clause-reads : goal.opened-returns-in-While-clause-reads
opened-returns-in-While-clause-reads t c = subst (λ z. Reads c.args.room (inner z c.args.place) (left c.args.cursor.now) c.while_body.result (left c.while_body.new.cursor)) (sym c.in-While.is) c.while_body.ensures.reads

pub opened-returns-in-Par-clause-reads : goal.opened-returns-in-Par-clause-reads
opened-returns-in-Par-clause-reads t c = subst (λ z. Reads c.args.room (inner z c.args.place) (left c.args.cursor.now) c.par_body.result (left c.par_body.new.cursor)) (sym c.in-Par.is) c.par_body.ensures.reads

pub opened-returns-in-Split-clause-reads : goal.opened-returns-in-Split-clause-reads
opened-returns-in-Split-clause-reads t c = subst (λ z. Reads c.args.room (inner z c.args.place) (left c.args.cursor.now) c.split_body.result (left c.split_body.new.cursor)) (sym c.in-Split.is) c.split_body.ensures.reads

pub opened-returns-in-Either-clause-reads : goal.opened-returns-in-Either-clause-reads
opened-returns-in-Either-clause-reads t c = subst (λ z. Reads c.args.room (inner z c.args.place) (left c.args.cursor.now) c.either_body.result (left c.either_body.new.cursor)) (sym c.in-Either.is) c.either_body.ensures.reads

pub opened-returns-in-Foreach-clause-reads : goal.opened-returns-in-Foreach-clause-reads
opened-returns-in-Foreach-clause-reads t c = subst (λ z. Reads c.args.room (inner z c.args.place) (left c.args.cursor.now) c.foreach_body.result (left c.foreach_body.new.cursor)) (sym c.in-Foreach.is) c.foreach_body.ensures.reads

pub body-returns-then-room-eq0-clause-reads : goal.body-returns-then-room-eq0-clause-reads
body-returns-then-room-eq0-clause-reads t c = λ n k. blocks.opens_deep _ (record { next = c.peek-next.ensures.next }) c.if-room-eq0.true (sym c.construct_at.ensures ∙ c.in-Some.is)

pub body-returns-in-Some-clause-reads : goal.body-returns-in-Some-clause-reads
body-returns-in-Some-clause-reads t c =
    passes (inner c.in-Some.kind c.peek-next.result.place) _ _ blocks.closing
    (λ k. blocks.opens c.if-room-eq0.false (took c.peek-next.ensures.next c.take.ensures.rest c.take.ensures.operators) (sym c.construct_at.ensures ∙ c.in-Some.is))
    (λ y k. exprs.closes c.if-room-eq0.false) c.opened.ensures.reads

pub body-returns-then-is_fixed-clause-reads : goal.body-returns-then-is_fixed-clause-reads
body-returns-then-is_fixed-clause-reads t c = passes _ _ _ (λ k. k) (λ k. blocks.calls (took c.peek-next.ensures.next c.take-then-is_fixed.ensures.rest c.take-then-is_fixed.ensures.operators) (c.is_fixed.ensures.yes c.if-is_fixed.true)) (λ y k. going.stay) c.call.ensures.reads

pub body-returns-then-is_fixed-2-clause-reads : goal.body-returns-then-is_fixed-2-clause-reads
body-returns-then-is_fixed-2-clause-reads t c = passes _ _ _ (λ k. k) (λ k. blocks.chooses (took c.peek-next.ensures.next c.take-then-is_fixed-2.ensures.rest c.take-then-is_fixed-2.ensures.operators) (c.is_fixed-2.ensures.yes c.if-is_fixed-2.true)) (λ y k. going.stay) c.any.ensures.reads

pub body-returns-in_err-arg-in-Takes-clause-reads : goal.body-returns-in_err-arg-in-Takes-clause-reads
body-returns-in_err-arg-in-Takes-clause-reads t c = exits _ _ _ c.from_residual-in_err-arg-in-Takes.ensures.1 (λ n k. blocks.takes_out (took c.peek-next.ensures.next c.take-in-Takes.ensures.rest c.take-in-Takes.ensures.operators) c.in-Takes.is (c.in_ok-word-in-Takes.ensures ∙ c.bytes.ensures) fails c.in_err-arg-in-Takes.ensures.reads n _)

pub body-returns-in_ok-arg-in-Takes-clause-reads : goal.body-returns-in_ok-arg-in-Takes-clause-reads
body-returns-in_ok-arg-in-Takes-clause-reads t c = λ k. blocks.takes_out (took c.peek-next.ensures.next c.take-in-Takes.ensures.rest c.take-in-Takes.ensures.operators) c.in-Takes.is (c.in_ok-word-in-Takes.ensures ∙ c.bytes.ensures) then c.in_ok-arg-in-Takes.ensures.reads _

pub body-returns-in_err-value-in_default-lexeme-clause-reads : goal.body-returns-in_err-value-in_default-lexeme-clause-reads
body-returns-in_err-value-in_default-lexeme-clause-reads t c = exits _ _ _ c.from_residual-in_err-value-in_default-lexeme.ensures.1 (λ n k. blocks.values (record { next = c.peek-next.ensures.next }) (blocks.no_construct _ c.construct_at.ensures c.in_default.not-Some) (c.is_fixed.ensures.no c.if-is_fixed.false) (c.is_fixed-2.ensures.no c.if-is_fixed-2.false) c.in_default-lexeme.not-Takes fails c.in_err-value-in_default-lexeme.ensures.reads n _)

pub body-returns-in_ok-value-in_default-lexeme-clause-reads : goal.body-returns-in_ok-value-in_default-lexeme-clause-reads
body-returns-in_ok-value-in_default-lexeme-clause-reads t c = λ k. blocks.values (record { next = c.peek-next.ensures.next }) (blocks.no_construct _ c.construct_at.ensures c.in_default.not-Some) (c.is_fixed.ensures.no c.if-is_fixed.false) (c.is_fixed-2.ensures.no c.if-is_fixed-2.false) c.in_default-lexeme.not-Takes then c.in_ok-value-in_default-lexeme.ensures.reads _

pub step-returns-in_err-test-clause-reads : goal.step-returns-in_err-test-clause-reads
step-returns-in_err-test-clause-reads t c = exits _ _ _ c.from_residual.ensures.1 (λ n k.
    going.met (took c.peek-next.ensures.next c.take.ensures.rest c.take.ensures.operators) (sym c.is_fixed.ensures.value ∙ c.if-is_fixed.true) fails c.in_err-test.ensures.reads n _)

pub step-returns-then-is_fixed-clause-reads : goal.step-returns-then-is_fixed-clause-reads
step-returns-then-is_fixed-clause-reads t c = λ k.
    going.met (took c.peek-next.ensures.next c.take.ensures.rest c.take.ensures.operators) (sym c.is_fixed.ensures.value ∙ c.if-is_fixed.true) then c.in_ok-test.ensures.reads _

pub step-returns-in_err-bound-clause-reads : goal.step-returns-in_err-bound-clause-reads
step-returns-in_err-bound-clause-reads t c = exits _ _ _ c.from_residual-in_err-bound.ensures.1 (λ n k.
    going.not_met (record { next = c.peek-next.ensures.next }) (sym c.is_fixed.ensures.value ∙ c.if-is_fixed.false) fails c.in_err-bound.ensures.reads n (λ y. body (λ b. k (kinds.Bind y.names y.place b))))

pub step-returns-in_err-found-clause-reads : goal.step-returns-in_err-found-clause-reads
step-returns-in_err-found-clause-reads t c = exits _ _ _ c.from_residual-in_err-found.ensures.1 (λ n k.
    going.not_met (record { next = c.peek-next.ensures.next }) (sym c.is_fixed.ensures.value ∙ c.if-is_fixed.false) then c.in_ok-bound.ensures.reads (λ y. body (λ b. k (kinds.Bind y.names y.place b)))
    fails c.in_err-found.ensures.reads n _)

pub step-returns-clause-reads : goal.step-returns-clause-reads
step-returns-clause-reads t c = λ k.
    going.not_met (record { next = c.peek-next.ensures.next }) (sym c.is_fixed.ensures.value ∙ c.if-is_fixed.false) then c.in_ok-bound.ensures.reads (λ y. body (λ b. k (kinds.Bind y.names y.place b)))
    then c.in_ok-found.ensures.reads _

pub block-returns-in_err-shown-clause-reads : goal.block-returns-in_err-shown-clause-reads
block-returns-in_err-shown-clause-reads t c = exits _ _ _ c.from_residual.ensures.1 (λ n k.
    c.each.invariant.reads k then blocks.returns (took c.peek-next.ensures.next c.take.ensures.rest c.take.ensures.operators) (c.is_fixed.ensures.yes c.if-is_fixed.true) fails c.in_err-shown.ensures.reads n _)

pub block-returns-then-is_fixed-clause-reads : goal.block-returns-then-is_fixed-clause-reads
block-returns-then-is_fixed-clause-reads t c = λ k.
    c.each.invariant.reads k then blocks.returns (took c.peek-next.ensures.next c.take.ensures.rest c.take.ensures.operators) (c.is_fixed.ensures.yes c.if-is_fixed.true) then c.in_ok-shown.ensures.reads _

pub block-returns-in_err-found-clause-reads : goal.block-returns-in_err-found-clause-reads
block-returns-in_err-found-clause-reads t c = exits _ _ _ c.from_residual-in_err-found.ensures.1 (λ n k.
    c.each.invariant.reads k then blocks.steps_on (record { next = c.peek-next.ensures.next }) (c.is_fixed.ensures.no c.if-is_fixed.false) fails c.in_err-found.ensures.reads n (λ s. steps (c.each.steps ++ s ∷ []) k))

pub block-each-preserved : goal.block-each-preserved
block-each-preserved t c = record {
  shorter = omega (arith, c.each.invariant.shorter, c.in_ok-found.ensures.shorter);
  reads = λ k. let e = c.in_ok-push.ensures.ok in
      rw e (c.each.invariant.reads k then blocks.steps_on (record { next = c.peek-next.ensures.next }) (c.is_fixed.ensures.no c.if-is_fixed.false) then c.in_ok-found.ensures.reads (λ s. steps (c.each.steps ++ s ∷ []) k));
}
