use Rattle.std.proofs.Common.{rules, arith, ◌≡◌, ◌<◌, ◌≤◌, ◌-◌, ◌+◌, [], ◌∷◌, ◌++◌, length, cond, true, false, ap, ◌∙◌, sym, refl, subst}
use Rattle.nres_core.specs.Texts.{param as param_made}
use Rattle.nres_syntax.specs.Bodies.{inner_params, one_shown, slice_or}
use Rattle.nres_automaton.specs.Cursor.{left}
use Rattle.nres_automaton.specs.Automaton.{Mode, Reads, pass, when, leave, more_params, more_shown, shown_as, laid, typed, container, param_of, shown, block_to, is_list}
use Rattle.nres_automaton.specs.declared.lexeme.Fixed.TheVariants as fixed
use Rattle.nres_automaton.proofs.Going as going
use Rattle.nres_automaton.proofs.Going.{◌then◌, ◌fails◌, exits, passes, took}
use Rattle.nres_automaton.proofs.Exprs as exprs
use Rattle.nres_syntax.proofs.Heads as heads
use Rattle.nres_syntax.proofs.head.one_result.Goals as goal

pub returns-in_err-found-clause-reads : goal.returns-in_err-found-clause-reads
returns-in_err-found-clause-reads c = exits _ _ _ c.from_residual.ensures.1 (λ n k. c.in_err-found.ensures.reads n (λ y. k y.shown))

pub returns-clause-reads : goal.returns-clause-reads
returns-clause-reads c = λ k. c.in_ok-found.ensures.reads (λ y. k y.shown)
