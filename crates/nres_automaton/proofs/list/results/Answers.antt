use Rattle.std.proofs.Common.{rules, arith, ◌≡◌, ◌<◌, ◌≤◌, ◌-◌, ◌+◌, [], ◌∷◌, ◌++◌, length, cond, true, false, ap, ◌∙◌, sym, refl}
use Rattle.nres_automaton.specs.Cursor.{left}
use Rattle.nres_automaton.specs.Automaton.{Mode, others, later, opened, leave, reset, first_read}
use Rattle.nres_automaton.proofs.Going as going
use Rattle.nres_automaton.proofs.Going.{◌then◌, ◌fails◌, exits, passes, took}
use Rattle.nres_automaton.proofs.Exprs as exprs
use Rattle.nres_automaton.proofs.Items as items
use Rattle.nres_automaton.proofs.list.results.Goals as goal

pub returns-then-room-eq0-clause-reads : goal.returns-then-room-eq0-clause-reads
returns-then-room-eq0-clause-reads c = λ n k. items.results_deep (record { next = c.peek-next.ensures.next }) c.if-room-eq0.true (c.is_fixed.ensures.yes c.if-is_fixed.true)

pub returns-in_err-first-clause-reads : goal.returns-in_err-first-clause-reads
returns-in_err-first-clause-reads c = exits _ _ _ c.from_residual.ensures.1 (λ n k.
    items.results_open c.if-room-eq0.false (took c.peek-next.ensures.next c.take.ensures.rest c.take.ensures.operators) (c.is_fixed.ensures.yes c.if-is_fixed.true) fails c.in_err-first.ensures.reads n _)

pub returns-in_err-goes_on-clause-reads : goal.returns-in_err-goes_on-clause-reads
returns-in_err-goes_on-clause-reads c = exits _ _ _ c.from_residual-in_err-goes_on.ensures.1 (λ n k.
    items.results_open c.if-room-eq0.false (took c.peek-next.ensures.next c.take.ensures.rest c.take.ensures.operators) (c.is_fixed.ensures.yes c.if-is_fixed.true) then c.in_ok-first.ensures.reads _
    fails c.in_err-goes_on.ensures.reads n (λ b. cond b (reset (later (c.in_ok-first.first ∷ []) (λ es. leave (k es)))) (leave (opened 5 c.peek-next.result.place (λ a. reset (k (a ∷ []))) c.in_ok-first.first))))

pub returns-then-goes_on-clause-reads : goal.returns-then-goes_on-clause-reads
returns-then-goes_on-clause-reads c =
    passes (later c.push.new.self) _ _ (λ k es. leave (k es))
    (λ k. items.results_open c.if-room-eq0.false (took c.peek-next.ensures.next c.take.ensures.rest c.take.ensures.operators) (c.is_fixed.ensures.yes c.if-is_fixed.true) then c.in_ok-first.ensures.reads _
    then c.in_ok-goes_on.ensures.reads (λ b. cond b (reset (later (c.in_ok-first.first ∷ []) (λ es. leave (k es)))) (leave (opened 5 c.peek-next.result.place (λ a. reset (k (a ∷ []))) c.in_ok-first.first))) then going.more_came _ c.if-goes_on.true
    then going.restarted c.restart.ensures.rest c.restart.ensures.operators
    then items.later_as (c.in_ok-push.ensures.ok ∙ ap (λ es. es ++ c.in_ok-first.first ∷ []) c.new-all.ensures))
    (λ y k. exprs.closes c.if-room-eq0.false) c.later.ensures.reads

pub returns-in_err-sum-clause-reads : goal.returns-in_err-sum-clause-reads
returns-in_err-sum-clause-reads c = exits _ _ _ c.from_residual-in_err-sum.ensures.1 (λ n k.
    items.results_open c.if-room-eq0.false (took c.peek-next.ensures.next c.take.ensures.rest c.take.ensures.operators) (c.is_fixed.ensures.yes c.if-is_fixed.true) then c.in_ok-first.ensures.reads _
    then c.in_ok-goes_on.ensures.reads (λ b. cond b (reset (later (c.in_ok-first.first ∷ []) (λ es. leave (k es)))) (leave (opened 5 c.peek-next.result.place (λ a. reset (k (a ∷ []))) c.in_ok-first.first))) then going.end_came _ c.if-goes_on.false
    then exprs.closes c.if-room-eq0.false fails c.in_err-sum.ensures.reads n (λ a. reset (k (a ∷ []))))

pub returns-then-is_fixed-clause-reads : goal.returns-then-is_fixed-clause-reads
returns-then-is_fixed-clause-reads c = λ k.
    let e = c.in_ok-push-2.ensures.ok in let f = c.new-all.ensures in
    rw (e, f) (items.results_open c.if-room-eq0.false (took c.peek-next.ensures.next c.take.ensures.rest c.take.ensures.operators) (c.is_fixed.ensures.yes c.if-is_fixed.true) then c.in_ok-first.ensures.reads _
    then c.in_ok-goes_on.ensures.reads (λ b. cond b (reset (later (c.in_ok-first.first ∷ []) (λ es. leave (k es)))) (leave (opened 5 c.peek-next.result.place (λ a. reset (k (a ∷ []))) c.in_ok-first.first))) then going.end_came _ c.if-goes_on.false
    then exprs.closes c.if-room-eq0.false then c.in_ok-sum.ensures.reads (λ a. reset (k (a ∷ [])))
    then going.restarted c.restart-then-is_fixed.ensures.rest c.restart-then-is_fixed.ensures.operators)

pub returns-in_err-only-clause-reads : goal.returns-in_err-only-clause-reads
returns-in_err-only-clause-reads c = exits _ _ _ c.from_residual-in_err-only.ensures.1 (λ n k.
    items.results_one (record { next = c.peek-next.ensures.next }) (c.is_fixed.ensures.no c.if-is_fixed.false) fails c.in_err-only.ensures.reads n _)

pub returns-clause-reads : goal.returns-clause-reads
returns-clause-reads c = λ k.
    let e = c.in_ok-push-3.ensures.ok in let f = c.new-all.ensures in
    rw (e, f) (items.results_one (record { next = c.peek-next.ensures.next }) (c.is_fixed.ensures.no c.if-is_fixed.false) then c.in_ok-only.ensures.reads _)
