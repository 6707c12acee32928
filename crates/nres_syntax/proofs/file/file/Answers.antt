use Rattle.std.proofs.Common.{rules, arith, ℕ, ◌≡◌, ◌<◌, ◌≤◌, ◌-◌, ◌+◌, [], ◌∷◌, ◌++◌, length, cond, true, false, ap, ◌∙◌, sym, refl, subst}
use Rattle.nres_automaton.specs.Cursor.{left}
use Rattle.nres_automaton.specs.Automaton.{Mode, Found, funs, fun_of, spec_of, withs, value}
use Rattle.nres_syntax.proofs.Ends as ends
use Rattle.nres_automaton.proofs.Going as going
use Rattle.nres_automaton.proofs.Going.{◌then◌, ◌fails◌, took}
use Rattle.nres_syntax.proofs.Heads as heads
use Rattle.nres_syntax.proofs.file.file.Goals as goal

pub returns-then-not-is_fixed : goal.returns-then-not-is_fixed
returns-then-not-is_fixed c = record { reads = λ n. ends.no_spec (record { next = c.peek-next.ensures.next }) (c.is_fixed.ensures.no c.if-not-is_fixed.true) }

pub returns-in_err-head : goal.returns-in_err-head
returns-in_err-head c = record { reads = ends.exits_file _ _ c.from_residual.ensures.1 (λ n. ends.begins_spec (took c.peek-next.ensures.next c.take.ensures.rest c.take.ensures.operators) (c.is_fixed.ensures.yes c.if-not-is_fixed.false) fails c.in_err-head.ensures.reads n (λ h. funs [] (spec_of h.name h.params h.shown h.body))) }

pub returns-in_err-rest : goal.returns-in_err-rest
returns-in_err-rest c = record {
  reads = ends.exits_file _ _ c.from_residual-in_err-rest.ensures.1 (λ n. ends.begins_spec (took c.peek-next.ensures.next c.take.ensures.rest c.take.ensures.operators) (c.is_fixed.ensures.yes c.if-not-is_fixed.false) then c.in_ok-head.ensures.reads (λ h. funs [] (spec_of h.name h.params h.shown h.body))
      fails c.in_err-rest.ensures.reads n (λ y. spec_of c.in_ok-head.head.name c.in_ok-head.head.params c.in_ok-head.head.shown c.in_ok-head.head.body y.funs y.withs));
}

pub returns : goal.returns
returns c = record {
  reads = let m = (ends.begins_spec (took c.peek-next.ensures.next c.take.ensures.rest c.take.ensures.operators) (c.is_fixed.ensures.yes c.if-not-is_fixed.false) then c.in_ok-head.ensures.reads (λ h. funs [] (spec_of h.name h.params h.shown h.body))) in
      m.runs ∙ c.in_ok-rest.ensures.reads (λ y. spec_of c.in_ok-head.head.name c.in_ok-head.head.params c.in_ok-head.head.shown c.in_ok-head.head.body y.funs y.withs);
}
