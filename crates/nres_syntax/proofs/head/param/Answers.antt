use Rattle.std.proofs.Common.{rules, arith, ◌≡◌, ◌<◌, ◌≤◌, ◌-◌, ◌+◌, [], ◌∷◌, ◌++◌, length, cond, true, false, ap, ◌∙◌, sym, refl, subst}
use Rattle.nres_core.specs.Texts.{param as param_made}
use Rattle.nres_syntax.specs.Bodies.{inner_params, one_shown, slice_or}
use Rattle.nres_automaton.specs.Cursor.{left}
use Rattle.nres_automaton.specs.Automaton.{Mode, Reads, pass, when, leave, more_params, more_shown, shown_as, laid, typed, container, param_of, shown, block_to, is_list}
use Rattle.nres_automaton.specs.declared.lexeme.Fixed.TheVariants as fixed
use Rattle.nres_automaton.proofs.Going as going
use Rattle.nres_automaton.proofs.Going.{◌then◌, ◌fails◌, exits, passes, took}
use Rattle.nres_automaton.proofs.Exprs as exprs
use Rattle.nres_syntax.proofs.Heads as heads
use Rattle.nres_syntax.proofs.head.param.Goals as goal

pub returns-in_err-found-clause-reads : goal.returns-in_err-found-clause-reads
returns-in_err-found-clause-reads c = exits _ _ _ c.from_residual.ensures.1 (λ n k. c.in_err-found.ensures.reads n _)

pub returns-in_err-typed-clause-reads : goal.returns-in_err-typed-clause-reads
returns-in_err-typed-clause-reads c = exits _ _ _ c.from_residual-in_err-typed.ensures.1 (λ n k. c.in_ok-found.ensures.reads _ fails c.in_err-typed.ensures.reads n (λ y. cond y.held (when fixed.Kept (λ _. k (param_made c.in_ok-found.found.name c.in_ok-found.found.place y.shown true)) (k (param_made c.in_ok-found.found.name c.in_ok-found.found.place y.shown false))) (k (param_made c.in_ok-found.found.name c.in_ok-found.found.place y.shown false))))

pub returns-then-not-typed-clause-reads : goal.returns-then-not-typed-clause-reads
returns-then-not-typed-clause-reads c = λ k.
    let e = c.param_with.ensures in
    rw e (c.in_ok-found.ensures.reads _ then c.in_ok-typed.ensures.reads (λ y. cond y.held (when fixed.Kept (λ _. k (param_made c.in_ok-found.found.name c.in_ok-found.found.place y.shown true)) (k (param_made c.in_ok-found.found.name c.in_ok-found.found.place y.shown false))) (k (param_made c.in_ok-found.found.name c.in_ok-found.found.place y.shown false))) then going.end_came _ (heads.is_not c.if-not-typed.true))

pub returns-then-is_fixed-clause-reads : goal.returns-then-is_fixed-clause-reads
returns-then-is_fixed-clause-reads c = λ k.
    let e = c.param_with-then-is_fixed.ensures in
    rw e (c.in_ok-found.ensures.reads _ then c.in_ok-typed.ensures.reads (λ y. cond y.held (when fixed.Kept (λ _. k (param_made c.in_ok-found.found.name c.in_ok-found.found.place y.shown true)) (k (param_made c.in_ok-found.found.name c.in_ok-found.found.place y.shown false))) (k (param_made c.in_ok-found.found.name c.in_ok-found.found.place y.shown false))) then going.more_came _ (heads.is_so c.if-not-typed.false) then going.met (took c.peek-next.ensures.next c.take.ensures.rest c.take.ensures.operators) (sym c.is_fixed.ensures.value ∙ c.if-is_fixed.true))

pub returns-clause-reads : goal.returns-clause-reads
returns-clause-reads c = λ k.
    let e = c.param_with-2.ensures in
    rw e (c.in_ok-found.ensures.reads _ then c.in_ok-typed.ensures.reads (λ y. cond y.held (when fixed.Kept (λ _. k (param_made c.in_ok-found.found.name c.in_ok-found.found.place y.shown true)) (k (param_made c.in_ok-found.found.name c.in_ok-found.found.place y.shown false))) (k (param_made c.in_ok-found.found.name c.in_ok-found.found.place y.shown false))) then going.more_came _ (heads.is_so c.if-not-typed.false) then going.not_met (record { next = c.peek-next.ensures.next }) (sym c.is_fixed.ensures.value ∙ c.if-is_fixed.false))
