use Rattle.std.proofs.Common.{rules, arith, ◌≡◌, ◌<◌, ◌≤◌, ◌-◌, ◌+◌, [], ◌∷◌, ◌++◌, length, cond, true, false, ap, ◌∙◌, sym, refl, subst}
use Rattle.nres_core.specs.Texts.{param as param_made}
use Rattle.nres_syntax.specs.Bodies.{inner_params, one_shown, slice_or}
use Rattle.nres_automaton.specs.Cursor.{left}
use Rattle.nres_automaton.specs.Automaton.{Mode, Reads, pass, when, leave, more_params, more_shown, shown_as, laid, typed, container, param_of, shown, block_to, is_list}
use Rattle.nres_automaton.specs.declared.lexeme.Fixed.TheVariants as fixed
use Rattle.nres_automaton.proofs.Going as going
use Rattle.nres_automaton.proofs.Going.{◌then◌, ◌fails◌, exits, passes, took}
use Rattle.nres_automaton.proofs.Exprs as exprs
use Rattle.nres_syntax.proofs.Heads as heads
use Rattle.nres_syntax.proofs.head.typed_as.Goals as goal

pub returns-in_err-shown-clause-reads : goal.returns-in_err-shown-clause-reads
returns-in_err-shown-clause-reads c = exits _ _ _ c.from_residual.ensures.1 (λ n k.
    heads.held (took c.peek-next.ensures.next c.take.ensures.rest c.take.ensures.operators) (sym c.container_type.ensures ∙ c.in-Some.is) fails c.in_err-shown.ensures.reads n (λ s. k (record { shown = s; held = true })))

pub returns-in-Some-clause-reads : goal.returns-in-Some-clause-reads
returns-in-Some-clause-reads c = λ k.
    heads.held (took c.peek-next.ensures.next c.take.ensures.rest c.take.ensures.operators) (sym c.container_type.ensures ∙ c.in-Some.is) then c.in_ok-shown.ensures.reads (λ s. k (record { shown = s; held = true }))

pub returns-in-Plain-clause-reads : goal.returns-in-Plain-clause-reads
returns-in-Plain-clause-reads c = λ k. heads.plain (took c.peek-next.ensures.next c.take-in-Plain.ensures.rest c.take-in-Plain.ensures.operators) c.in-Plain.is

pub returns-in_default-lexeme : goal.returns-in_default-lexeme
returns-in_default-lexeme c = record {
  reads = λ n k. heads.no_type (record { next = c.peek-next.ensures.next }) (λ u e. c.in_default.not-Some u (c.container_type.ensures ∙ e)) c.in_default-lexeme.not-Plain;
  shorter = tt;
}
