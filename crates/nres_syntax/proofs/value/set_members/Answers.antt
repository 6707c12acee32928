use Rattle.std.proofs.Common.{rules, arith, ℕ, ◌≡◌, ◌<◌, ◌≤◌, ◌-◌, ◌+◌, [], ◌∷◌, ◌++◌, length, cond, true, false, ap, ◌∙◌, sym, refl, subst}
use Rattle.std.specs.FinMap as maps
use Rattle.std.specs.FinSet as sets
use Rattle.containers.specs.Bag.{bag_of}
use Rattle.nres_core.specs.Texts.{put_all}
use Rattle.nres_core.specs.declared.value.Value.TheVariants as v
use Rattle.nres_automaton.specs.Cursor.{left}
use Rattle.nres_automaton.specs.Automaton.{Mode, Reads, pass, when, leave, comma_or, numbers, numbers_read, members, pairs, pair_of, braces, value}
use Rattle.nres_automaton.specs.declared.lexeme.Fixed.TheVariants as fixed
use Rattle.nres_automaton.proofs.Going as going
use Rattle.nres_automaton.proofs.Going.{◌then◌, ◌fails◌, exits, passes, took}
use Rattle.nres_syntax.proofs.Values as values
use Rattle.nres_syntax.proofs.value.set_members.Goals as goal

pub returns-in_err-goes_on-clause-reads : goal.returns-in_err-goes_on-clause-reads
returns-in_err-goes_on-clause-reads c = exits _ _ _ c.from_residual-in_err-goes_on.ensures.1 (λ n k. c.in_err-goes_on.ensures.reads n (λ b. cond b (numbers fixed.CloseBrace (c.args.first ∷ []) k) (k (c.args.first ∷ []))))

pub returns-then-not-goes_on-clause-reads : goal.returns-then-not-goes_on-clause-reads
returns-then-not-goes_on-clause-reads c = λ k.
    let e = c.in_ok-push.ensures.ok in let f = c.new-all.ensures in
    rw (e, f) (c.in_ok-goes_on.ensures.reads (λ b. cond b (numbers fixed.CloseBrace (c.args.first ∷ []) k) (k (c.args.first ∷ []))) then going.end_came _ c.if-not-goes_on.true)

pub returns-clause-reads : goal.returns-clause-reads
returns-clause-reads c = passes (numbers fixed.CloseBrace c.push.new.self) _ _ (λ k. k)
    (λ k. c.in_ok-goes_on.ensures.reads (λ b. cond b (numbers fixed.CloseBrace (c.args.first ∷ []) k) (k (c.args.first ∷ []))) then going.more_came _ c.if-not-goes_on.false
    then values.numbers_as (c.in_ok-push.ensures.ok ∙ ap (λ ns. ns ++ c.args.first ∷ []) c.new-all.ensures)) (λ y k. going.stay) c.numbers.ensures.reads
