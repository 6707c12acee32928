use Rattle.std.proofs.Common.{rules, arith, ℕ, ◌≡◌, ◌<◌, ◌≤◌, ◌-◌, ◌+◌, [], ◌∷◌, ◌++◌, length, cond, true, false, ap, ◌∙◌, sym, refl, subst}
use Rattle.nres_automaton.specs.Cursor.{left}
use Rattle.nres_automaton.specs.Automaton.{Mode, Found, funs, fun_of, spec_of, withs, value}
use Rattle.nres_syntax.proofs.Ends as ends
use Rattle.nres_automaton.proofs.Going as going
use Rattle.nres_automaton.proofs.Going.{◌then◌, ◌fails◌, took}
use Rattle.nres_syntax.proofs.Heads as heads
use Rattle.nres_syntax.proofs.file.behind.Goals as goal

pub returns-in_err-given : goal.returns-in_err-given
returns-in_err-given c = record { reads = ends.exits_end _ _ c.from_residual.ensures.1 (λ n k. c.each.invariant.reads (λ fs ws. k (record { funs = fs; withs = ws })) then ends.no_fun (record { next = c.peek-next.ensures.next }) (c.is_fixed.ensures.no c.if-not-is_fixed.true) fails c.in_err-given.ensures.reads n (λ ws. k (record { funs = c.each.funs; withs = ws }))) }

pub returns-then-not-is_fixed : goal.returns-then-not-is_fixed
returns-then-not-is_fixed c = record { reads = λ k. let m = (c.each.invariant.reads (λ fs ws. k (record { funs = fs; withs = ws })) then ends.no_fun (record { next = c.peek-next.ensures.next }) (c.is_fixed.ensures.no c.if-not-is_fixed.true)) in m.runs ∙ c.in_ok-given.ensures.reads (λ ws. k (record { funs = c.each.funs; withs = ws })) }

pub returns-in_err-head : goal.returns-in_err-head
returns-in_err-head c = record { reads = ends.exits_end _ _ c.from_residual-in_err-head.ensures.1 (λ n k. c.each.invariant.reads (λ fs ws. k (record { funs = fs; withs = ws })) then ends.begins_fun (took c.peek-next.ensures.next c.take.ensures.rest c.take.ensures.operators) (c.is_fixed.ensures.yes c.if-not-is_fixed.false) fails c.in_err-head.ensures.reads n (λ h. funs (c.each.funs ++ fun_of h.name h.params h.shown h.body ∷ []) (λ fs ws. k (record { funs = fs; withs = ws })))) }

pub each-preserved : goal.each-preserved
each-preserved c = record {
  shorter = omega (arith, c.each.invariant.shorter, c.in_ok-head.ensures.shorter, going.taken (left c.each.cursor).0 (left c.take.new.self).0 c.take.ensures.rest);
  reads = λ k. let e = c.in_ok-push.ensures.ok in rw e (c.each.invariant.reads k then ends.begins_fun (took c.peek-next.ensures.next c.take.ensures.rest c.take.ensures.operators) (c.is_fixed.ensures.yes c.if-not-is_fixed.false) then c.in_ok-head.ensures.reads (λ h. funs (c.each.funs ++ fun_of h.name h.params h.shown h.body ∷ []) k));
}
