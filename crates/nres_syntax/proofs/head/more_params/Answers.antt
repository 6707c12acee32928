use Rattle.std.proofs.Common.{rules, arith, ◌≡◌, ◌<◌, ◌≤◌, ◌-◌, ◌+◌, [], ◌∷◌, ◌++◌, length, cond, true, false, ap, ◌∙◌, sym, refl, subst}
use Rattle.nres_core.specs.Texts.{param as param_made}
use Rattle.nres_syntax.specs.Bodies.{inner_params, one_shown, slice_or}
use Rattle.nres_automaton.specs.Cursor.{left}
use Rattle.nres_automaton.specs.Automaton.{Mode, Reads, pass, when, leave, more_params, more_shown, shown_as, laid, typed, container, param_of, shown, block_to, is_list, comma_or}
use Rattle.nres_automaton.specs.declared.lexeme.Fixed.TheVariants as fixed
use Rattle.nres_automaton.proofs.Going as going
use Rattle.nres_automaton.proofs.Going.{◌then◌, ◌fails◌, exits, passes, took}
use Rattle.nres_automaton.proofs.Exprs as exprs
use Rattle.nres_syntax.proofs.Heads as heads
use Rattle.nres_syntax.proofs.head.more_params.Goals as goal

pub returns-in_err-found-clause-reads : goal.returns-in_err-found-clause-reads
returns-in_err-found-clause-reads c = exits _ _ _ c.from_residual.ensures.1 (λ n k. c.each.invariant.reads k then heads.param_is_name fails c.in_err-found.ensures.reads n (λ y. comma_or fixed.Close (more_params c.args.slices (c.each.all ++ y ∷ []) k) (k (c.each.all ++ y ∷ []))))

pub returns-in_err-goes_on-clause-reads : goal.returns-in_err-goes_on-clause-reads
returns-in_err-goes_on-clause-reads c = exits _ _ _ c.from_residual-in_err-goes_on.ensures.1 (λ n k.
    c.each.invariant.reads k then heads.param_is_name then c.in_ok-found.ensures.reads (λ y. comma_or fixed.Close (more_params c.args.slices (c.each.all ++ y ∷ []) k) (k (c.each.all ++ y ∷ []))) fails c.in_err-goes_on.ensures.reads n (λ b. cond b (more_params c.args.slices (c.each.all ++ c.in_ok-found.found ∷ []) k) (k (c.each.all ++ c.in_ok-found.found ∷ []))))

pub returns-then-not-goes_on-clause-reads : goal.returns-then-not-goes_on-clause-reads
returns-then-not-goes_on-clause-reads c = λ k.
    let e = c.in_ok-push.ensures.ok in
    rw e (c.each.invariant.reads k then heads.param_is_name then c.in_ok-found.ensures.reads (λ y. comma_or fixed.Close (more_params c.args.slices (c.each.all ++ y ∷ []) k) (k (c.each.all ++ y ∷ []))) then c.in_ok-goes_on.ensures.reads (λ b. cond b (more_params c.args.slices (c.each.all ++ c.in_ok-found.found ∷ []) k) (k (c.each.all ++ c.in_ok-found.found ∷ []))) then going.end_came _ c.if-not-goes_on.true)

pub each-preserved : goal.each-preserved
each-preserved c = record {
  shorter = omega (arith, c.each.invariant.shorter, c.in_ok-found.ensures.shorter, c.in_ok-goes_on.ensures.shorter);
  reads = λ k.
      let e = c.in_ok-push.ensures.ok in
      rw e (c.each.invariant.reads k then heads.param_is_name then c.in_ok-found.ensures.reads (λ y. comma_or fixed.Close (more_params c.args.slices (c.each.all ++ y ∷ []) k) (k (c.each.all ++ y ∷ []))) then c.in_ok-goes_on.ensures.reads (λ b. cond b (more_params c.args.slices (c.each.all ++ c.in_ok-found.found ∷ []) k) (k (c.each.all ++ c.in_ok-found.found ∷ []))) then going.more_came _ c.if-not-goes_on.false);
}
