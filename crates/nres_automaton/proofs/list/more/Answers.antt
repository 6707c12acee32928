use Rattle.std.proofs.Common.{rules, arith, ◌≡◌, ◌<◌, ◌≤◌, ◌-◌, ◌+◌, [], ◌∷◌, ◌++◌, length, cond, true, false, ap, ◌∙◌, sym, refl}
use Rattle.nres_automaton.specs.Cursor.{left}
use Rattle.nres_automaton.proofs.Going as going
use Rattle.nres_automaton.proofs.Going.{◌then◌, ◌fails◌, exits, passes, took}
use Rattle.nres_automaton.proofs.Exprs as exprs
use Rattle.nres_automaton.proofs.Items as items
use Rattle.nres_automaton.proofs.list.more.Goals as goal

pub returns-then-is_fixed-clause-reads : goal.returns-then-is_fixed-clause-reads
returns-then-is_fixed-clause-reads c = λ k. going.met (took c.peek-next.ensures.next c.take.ensures.rest c.take.ensures.operators) (sym c.is_fixed.ensures.value ∙ c.if-is_fixed.true)

pub returns-in_err-pass-clause-reads : goal.returns-in_err-pass-clause-reads
returns-in_err-pass-clause-reads c = exits _ _ _ c.from_residual.ensures.1 (λ n k.
    going.not_met (record { next = c.peek-next.ensures.next }) (sym c.is_fixed.ensures.value ∙ c.if-is_fixed.false) fails going.passed_not c.in_err-pass.ensures)

pub returns-clause-reads : goal.returns-clause-reads
returns-clause-reads c = λ k. going.not_met (record { next = c.peek-next.ensures.next }) (sym c.is_fixed.ensures.value ∙ c.if-is_fixed.false) then going.passed c.in_ok-pass.ensures
