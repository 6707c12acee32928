use Rattle.std.proofs.Common.{rules, arith, ℕ, ◌≡◌, ◌<◌, ◌≤◌, ◌-◌, ◌+◌, [], ◌∷◌, ◌++◌, length, cond, true, false, ap, ◌∙◌, sym, refl, subst}
use Rattle.nres_automaton.specs.Cursor.{left}
use Rattle.nres_automaton.specs.Automaton.{Mode, Found, funs, fun_of, spec_of, withs, value}
use Rattle.nres_syntax.proofs.Ends as ends
use Rattle.nres_automaton.proofs.Going as going
use Rattle.nres_automaton.proofs.Going.{◌then◌, ◌fails◌, took}
use Rattle.nres_syntax.proofs.Heads as heads
use Rattle.nres_syntax.proofs.file.withs.Goals as goal

pub returns-in-End : goal.returns-in-End
returns-in-End c = record {
  reads = λ k. let m = c.each.invariant.reads k in m.runs ∙ ends.ends _ _ k (record { next = c.peek-next.ensures.next }) c.in-End.is (c.peek-next.ensures.ends c.in-End.is);
}

pub returns-in_default : goal.returns-in_default
returns-in_default c = record { reads = λ n k. c.each.invariant.reads k fails ends.no_with (record { next = c.peek-next.ensures.next }) c.in_default.not-End (c.is_fixed.ensures.no c.if-not-is_fixed.true) }

pub returns-in_err-found : goal.returns-in_err-found
returns-in_err-found c = record { reads = ends.exits_end _ _ c.from_residual.ensures.1 (λ n k. c.each.invariant.reads k then ends.gives (took c.peek-next.ensures.next c.take.ensures.rest c.take.ensures.operators) (c.is_fixed.ensures.yes c.if-not-is_fixed.false) fails c.in_err-found.ensures.reads n _) }

pub returns-in_err-given : goal.returns-in_err-given
returns-in_err-given c = record { reads = ends.exits_end _ _ c.from_residual-in_err-given.ensures.1 (λ n k. c.each.invariant.reads k then ends.gives (took c.peek-next.ensures.next c.take.ensures.rest c.take.ensures.operators) (c.is_fixed.ensures.yes c.if-not-is_fixed.false) then c.in_ok-found.ensures.reads _ fails c.in_err-given.ensures.reads n (λ y. withs (c.each.all ++ record { name = c.in_ok-found.found.name; place = c.in_ok-found.found.place; value = y } ∷ []) k)) }

pub each-preserved : goal.each-preserved
each-preserved c = record {
  shorter = omega (arith, c.each.invariant.shorter, c.in_ok-found.ensures.shorter, c.in_ok-given.ensures.shorter, going.taken (left c.each.cursor).0 (left c.take.new.self).0 c.take.ensures.rest);
  reads = λ k. let e = c.in_ok-push.ensures.ok in rw e (c.each.invariant.reads k then ends.gives (took c.peek-next.ensures.next c.take.ensures.rest c.take.ensures.operators) (c.is_fixed.ensures.yes c.if-not-is_fixed.false) then c.in_ok-found.ensures.reads _ then c.in_ok-given.ensures.reads (λ y. withs (c.each.all ++ record { name = c.in_ok-found.found.name; place = c.in_ok-found.found.place; value = y } ∷ []) k));
}
