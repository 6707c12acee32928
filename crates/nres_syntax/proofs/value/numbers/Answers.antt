use Rattle.std.proofs.Common.{rules, arith, ℕ, ◌≡◌, ◌<◌, ◌≤◌, ◌-◌, ◌+◌, [], ◌∷◌, ◌++◌, length, cond, true, false, ap, ◌∙◌, sym, refl, subst}
use Rattle.std.specs.FinMap as maps
use Rattle.std.specs.FinSet as sets
use Rattle.containers.specs.Bag.{bag_of}
use Rattle.nres_core.specs.Texts.{put_all}
use Rattle.nres_core.specs.declared.value.Value.TheVariants as v
use Rattle.nres_automaton.specs.Cursor.{left}
use Rattle.nres_automaton.specs.Automaton.{Mode, Reads, pass, when, leave, comma_or, numbers, numbers_read, members, pairs, pair_of, braces, value}
use Rattle.nres_automaton.specs.declared.lexeme.Fixed.TheVariants as fixed
use Rattle.nres_automaton.proofs.Going as going
use Rattle.nres_automaton.proofs.Going.{◌then◌, ◌fails◌, exits, passes, took}
use Rattle.nres_syntax.proofs.Values as values
use Rattle.nres_syntax.proofs.value.numbers.Goals as goal

pub returns-in_err-found-clause-reads : goal.returns-in_err-found-clause-reads
returns-in_err-found-clause-reads c = exits _ _ _ c.from_residual.ensures.1 (λ n k. c.each.invariant.reads k then values.numbers_is_number fails c.in_err-found.ensures.reads n _)

pub returns-in_err-goes_on-clause-reads : goal.returns-in_err-goes_on-clause-reads
returns-in_err-goes_on-clause-reads c = exits _ _ _ c.from_residual-in_err-goes_on.ensures.1 (λ n k.
    c.each.invariant.reads k then values.numbers_is_number then c.in_ok-found.ensures.reads _ fails c.in_err-goes_on.ensures.reads n (λ b. cond b (numbers c.args.close (c.each.all ++ c.in_ok-found.found ∷ []) k) (k (c.each.all ++ c.in_ok-found.found ∷ []))))

pub returns-then-not-goes_on-clause-reads : goal.returns-then-not-goes_on-clause-reads
returns-then-not-goes_on-clause-reads c = λ k.
    let e = c.in_ok-push.ensures.ok in
    rw e (c.each.invariant.reads k then values.numbers_is_number then c.in_ok-found.ensures.reads _ then c.in_ok-goes_on.ensures.reads (λ b. cond b (numbers c.args.close (c.each.all ++ c.in_ok-found.found ∷ []) k) (k (c.each.all ++ c.in_ok-found.found ∷ []))) then going.end_came _ c.if-not-goes_on.true)

pub each-preserved : goal.each-preserved
each-preserved c = record {
  shorter = omega (arith, c.each.invariant.shorter, c.in_ok-found.ensures.shorter, c.in_ok-goes_on.ensures.shorter);
  reads = λ k.
      let e = c.in_ok-push.ensures.ok in
      rw e (c.each.invariant.reads k then values.numbers_is_number then c.in_ok-found.ensures.reads _ then c.in_ok-goes_on.ensures.reads (λ b. cond b (numbers c.args.close (c.each.all ++ c.in_ok-found.found ∷ []) k) (k (c.each.all ++ c.in_ok-found.found ∷ []))) then going.more_came _ c.if-not-goes_on.false);
}
