use Rattle.std.proofs.Common.{rules, arith, ◌≡◌, ◌<◌, ◌≤◌, ◌-◌, ◌+◌, [], ◌∷◌, ◌++◌, length, cond, true, false, ap, ◌∙◌, sym, refl, subst}
use Rattle.nres_core.specs.Texts.{param as param_made}
use Rattle.nres_syntax.specs.Bodies.{inner_params, one_shown, slice_or}
use Rattle.nres_automaton.specs.Cursor.{left}
use Rattle.nres_automaton.specs.Automaton.{Mode, Reads, pass, when, leave, more_params, more_shown, shown_as, laid, typed, container, param_of, shown, block_to, is_list}
use Rattle.nres_automaton.specs.declared.lexeme.Fixed.TheVariants as fixed
use Rattle.nres_automaton.proofs.Going as going
use Rattle.nres_automaton.proofs.Going.{◌then◌, ◌fails◌, exits, passes, took}
use Rattle.nres_automaton.proofs.Exprs as exprs
use Rattle.nres_syntax.proofs.Heads as heads
use Rattle.nres_syntax.proofs.head.container.Goals as goal

pub returns-in_err-pass-clause-reads : goal.returns-in_err-pass-clause-reads
returns-in_err-pass-clause-reads c = exits _ _ _ c.from_residual.ensures.1 (λ n k. going.passed_not c.in_err-pass.ensures)

pub returns-then-may_be_slice-clause-reads : goal.returns-then-may_be_slice-clause-reads
returns-then-may_be_slice-clause-reads c = passes (slice_or c.args.ty) _ _ (λ k. k)
    (λ k. going.passed c.in_ok-pass.ensures then going.more_came _ (sym c.may_be_slice.ensures ∙ c.if-may_be_slice.true)) (λ y k. going.stay) c.list_laid.ensures.reads

pub returns-clause-reads : goal.returns-clause-reads
returns-clause-reads c = passes (laid c.args.ty) _ _ (λ k. k)
    (λ k. going.passed c.in_ok-pass.ensures then going.end_came _ (sym c.may_be_slice.ensures ∙ c.if-may_be_slice.false)) (λ y k. going.stay) c.laid.ensures.reads
