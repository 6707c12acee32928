use Rattle.std.proofs.Common.{rules, arith, ◌≡◌, ◌<◌, ◌≤◌, ◌-◌, ◌+◌, [], ◌∷◌, ◌++◌, length, cond, true, false, ap, ◌∙◌, sym, refl}
use Rattle.nres_automaton.specs.Cursor.{left}
use Rattle.nres_automaton.specs.Automaton.{Mode, others, later, opened, leave, reset, first_read}
use Rattle.nres_automaton.proofs.Going as going
use Rattle.nres_automaton.proofs.Going.{◌then◌, ◌fails◌, exits, passes, took}
use Rattle.nres_automaton.proofs.Exprs as exprs
use Rattle.nres_automaton.proofs.Items as items
use Rattle.nres_automaton.proofs.list.pattern.Goals as goal

pub returns-then-room-eq0-clause-reads : goal.returns-then-room-eq0-clause-reads
returns-then-room-eq0-clause-reads c = λ n k. items.pattern_deep k (record { next = c.peek-next.ensures.next }) c.if-room-eq0.true (c.is_fixed.ensures.yes c.if-is_fixed.true)

pub returns-in_err-first-clause-reads : goal.returns-in_err-first-clause-reads
returns-in_err-first-clause-reads c = exits _ _ _ c.from_residual.ensures.1 (λ n k.
    items.pattern_opens k c.if-room-eq0.false (took c.peek-next.ensures.next c.take.ensures.rest c.take.ensures.operators) (c.is_fixed.ensures.yes c.if-is_fixed.true) fails c.in_err-first.ensures.reads n _)

pub returns-in_err-names-clause-reads : goal.returns-in_err-names-clause-reads
returns-in_err-names-clause-reads c = exits _ _ _ c.from_residual-in_err-names.ensures.1 (λ n k.
    items.pattern_opens k c.if-room-eq0.false (took c.peek-next.ensures.next c.take.ensures.rest c.take.ensures.operators) (c.is_fixed.ensures.yes c.if-is_fixed.true) then c.in_ok-first.ensures.reads _
    then items.others_as (c.in_ok-push.ensures.ok ∙ ap (λ xs. xs ++ c.in_ok-first.first ∷ []) c.new-names.ensures) fails c.in_err-names.ensures.reads n _)

pub returns-then-is_fixed-clause-reads : goal.returns-then-is_fixed-clause-reads
returns-then-is_fixed-clause-reads c = λ k.
    items.pattern_opens k c.if-room-eq0.false (took c.peek-next.ensures.next c.take.ensures.rest c.take.ensures.operators) (c.is_fixed.ensures.yes c.if-is_fixed.true) then c.in_ok-first.ensures.reads _
    then items.others_as (c.in_ok-push.ensures.ok ∙ ap (λ xs. xs ++ c.in_ok-first.first ∷ []) c.new-names.ensures) then c.in_ok-names.ensures.reads _
    then exprs.closes c.if-room-eq0.false

pub returns-in_err-only-clause-reads : goal.returns-in_err-only-clause-reads
returns-in_err-only-clause-reads c = exits _ _ _ c.from_residual-in_err-only.ensures.1 (λ n k.
    items.pattern_is_name k (record { next = c.peek-next.ensures.next }) (c.is_fixed.ensures.no c.if-is_fixed.false) fails c.in_err-only.ensures.reads n _)

pub returns-clause-reads : goal.returns-clause-reads
returns-clause-reads c = λ k.
    let e = c.in_ok-push-2.ensures.ok in let f = c.new-names.ensures in
    rw (e, f) (items.pattern_is_name k (record { next = c.peek-next.ensures.next }) (c.is_fixed.ensures.no c.if-is_fixed.false) then c.in_ok-only.ensures.reads _)
