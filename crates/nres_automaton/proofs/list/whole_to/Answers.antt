use Rattle.std.proofs.Common.{rules, arith, ◌≡◌, ◌<◌, ◌≤◌, ◌-◌, ◌+◌, [], ◌∷◌, ◌++◌, length, cond, true, false, ap, ◌∙◌, sym, refl}
use Rattle.nres_automaton.specs.Cursor.{left}
use Rattle.nres_automaton.proofs.Going as going
use Rattle.nres_automaton.proofs.Going.{◌then◌, ◌fails◌, exits, passes, took}
use Rattle.nres_automaton.proofs.Exprs as exprs
use Rattle.nres_automaton.proofs.Items as items
use Rattle.nres_automaton.proofs.list.whole_to.Goals as goal

pub returns-in_err-found-clause-reads : goal.returns-in_err-found-clause-reads
returns-in_err-found-clause-reads c = exits _ _ _ c.from_residual.ensures.1 (λ n k. c.in_err-found.ensures.reads n _)

pub returns-in_err-pass-clause-reads : goal.returns-in_err-pass-clause-reads
returns-in_err-pass-clause-reads c = exits _ _ _ c.from_residual-in_err-pass.ensures.1 (λ n k. c.in_ok-found.ensures.reads _ fails going.passed_not c.in_err-pass.ensures)

pub returns-clause-reads : goal.returns-clause-reads
returns-clause-reads c = λ k. c.in_ok-found.ensures.reads _ then going.passed c.in_ok-pass.ensures
