use Rattle.std.proofs.Common.{rules, arith, ◌≡◌, ◌<◌, ◌≤◌, ◌-◌, ◌+◌, [], ◌∷◌, ◌++◌, length, cond, true, false, ap, ◌∙◌, sym, refl, subst}
use Rattle.nres_core.specs.Texts.{param as param_made}
use Rattle.nres_syntax.specs.Bodies.{inner_params, one_shown, slice_or}
use Rattle.nres_automaton.specs.Cursor.{left}
use Rattle.nres_automaton.specs.Automaton.{Mode, Reads, pass, when, leave, more_params, more_shown, shown_as, laid, typed, container, param_of, shown, block_to, is_list}
use Rattle.nres_automaton.specs.declared.lexeme.Fixed.TheVariants as fixed
use Rattle.nres_automaton.proofs.Going as going
use Rattle.nres_automaton.proofs.Going.{◌then◌, ◌fails◌, exits, passes, took}
use Rattle.nres_automaton.proofs.Exprs as exprs
use Rattle.nres_syntax.proofs.Heads as heads
use Rattle.nres_syntax.proofs.head.list_laid.Goals as goal

pub returns-then-is_fixed-clause-reads : goal.returns-then-is_fixed-clause-reads
returns-then-is_fixed-clause-reads c = λ k. going.met (took c.peek-next.ensures.next c.take.ensures.rest c.take.ensures.operators) (sym c.is_fixed.ensures.value ∙ c.if-is_fixed.true)

pub returns-clause-reads : goal.returns-clause-reads
returns-clause-reads c = passes (laid c.args.ty) _ _ (λ k. k) (λ k. going.not_met (record { next = c.peek-next.ensures.next }) (sym c.is_fixed.ensures.value ∙ c.if-is_fixed.false)) (λ y k. going.stay) c.laid.ensures.reads
