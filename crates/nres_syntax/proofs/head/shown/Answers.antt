use Rattle.std.proofs.Common.{rules, arith, ◌≡◌, ◌<◌, ◌≤◌, ◌-◌, ◌+◌, [], ◌∷◌, ◌++◌, length, cond, true, false, ap, ◌∙◌, sym, refl, subst}
use Rattle.nres_core.specs.Texts.{param as param_made}
use Rattle.nres_syntax.specs.Bodies.{inner_params, one_shown, slice_or}
use Rattle.nres_automaton.specs.Cursor.{left}
use Rattle.nres_automaton.specs.Automaton.{Mode, Reads, pass, when, leave, more_params, more_shown, shown_as, laid, typed, container, param_of, shown, block_to, is_list}
use Rattle.nres_automaton.specs.declared.lexeme.Fixed.TheVariants as fixed
use Rattle.nres_automaton.proofs.Going as going
use Rattle.nres_automaton.proofs.Going.{◌then◌, ◌fails◌, exits, passes, took}
use Rattle.nres_automaton.proofs.Exprs as exprs
use Rattle.nres_syntax.proofs.Heads as heads
use Rattle.nres_syntax.proofs.head.shown.Goals as goal

pub returns-then-room-eq0-clause-reads : goal.returns-then-room-eq0-clause-reads
returns-then-room-eq0-clause-reads c = λ n k. heads.shown_deep (record { next = c.peek-next.ensures.next }) c.if-room-eq0.true (c.is_fixed.ensures.yes c.if-is_fixed.true)

pub returns-in_err-first-clause-reads : goal.returns-in_err-first-clause-reads
returns-in_err-first-clause-reads c = exits _ _ _ c.from_residual.ensures.1 (λ n k. heads.shown_opens c.if-room-eq0.false (took c.peek-next.ensures.next c.take.ensures.rest c.take.ensures.operators) (c.is_fixed.ensures.yes c.if-is_fixed.true) fails c.in_err-first.ensures.reads n (λ y. pass fixed.Comma (λ _. more_shown c.args.slices (y ∷ []) (λ ys. leave (k ys)))))

pub returns-in_err-pass-clause-reads : goal.returns-in_err-pass-clause-reads
returns-in_err-pass-clause-reads c = exits _ _ _ c.from_residual-in_err-pass.ensures.1 (λ n k. heads.shown_opens c.if-room-eq0.false (took c.peek-next.ensures.next c.take.ensures.rest c.take.ensures.operators) (c.is_fixed.ensures.yes c.if-is_fixed.true) then c.in_ok-first.ensures.reads (λ y. pass fixed.Comma (λ _. more_shown c.args.slices (y ∷ []) (λ ys. leave (k ys)))) fails going.passed_not c.in_err-pass.ensures)

pub returns-then-is_fixed-clause-reads : goal.returns-then-is_fixed-clause-reads
returns-then-is_fixed-clause-reads c =
    passes (more_shown c.args.slices c.push.new.self) _ _ (λ k ys. leave (k ys))
    (λ k. heads.shown_opens c.if-room-eq0.false (took c.peek-next.ensures.next c.take.ensures.rest c.take.ensures.operators) (c.is_fixed.ensures.yes c.if-is_fixed.true) then c.in_ok-first.ensures.reads (λ y. pass fixed.Comma (λ _. more_shown c.args.slices (y ∷ []) (λ ys. leave (k ys)))) then going.passed c.in_ok-pass.ensures
    then heads.shown_as_list (c.in_ok-push.ensures.ok ∙ ap (λ ys. ys ++ c.in_ok-first.first ∷ []) c.new-all.ensures))
    (λ y k. exprs.closes c.if-room-eq0.false) c.more_shown.ensures.reads

pub returns-in_err-only-clause-reads : goal.returns-in_err-only-clause-reads
returns-in_err-only-clause-reads c = exits _ _ _ c.from_residual-in_err-only.ensures.1 (λ n k. heads.shown_one (record { next = c.peek-next.ensures.next }) (c.is_fixed.ensures.no c.if-is_fixed.false) fails c.in_err-only.ensures.reads n (λ y. k (y ∷ [])))

pub returns-clause-reads : goal.returns-clause-reads
returns-clause-reads c = λ k.
    let e = c.in_ok-push-2.ensures.ok in let f = c.new-all.ensures in
    rw (e, f) (heads.shown_one (record { next = c.peek-next.ensures.next }) (c.is_fixed.ensures.no c.if-is_fixed.false) then c.in_ok-only.ensures.reads (λ y. k (y ∷ [])))
