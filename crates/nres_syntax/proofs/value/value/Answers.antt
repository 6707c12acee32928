use Rattle.std.proofs.Common.{rules, arith, ℕ, ◌≡◌, ◌<◌, ◌≤◌, ◌-◌, ◌+◌, [], ◌∷◌, ◌++◌, length, cond, true, false, ap, ◌∙◌, sym, refl, subst}
use Rattle.std.specs.FinMap as maps
use Rattle.std.specs.FinSet as sets
use Rattle.containers.specs.Bag.{bag_of}
use Rattle.nres_core.specs.Texts.{put_all}
use Rattle.nres_core.specs.declared.value.Value.TheVariants as v
use Rattle.nres_automaton.specs.Cursor.{left}
use Rattle.nres_automaton.specs.Automaton.{Mode, Reads, pass, when, leave, comma_or, numbers, numbers_read, members, pairs, pair_of, braces, value}
use Rattle.nres_automaton.specs.declared.lexeme.Fixed.TheVariants as fixed
use Rattle.nres_automaton.proofs.Going as going
use Rattle.nres_automaton.proofs.Going.{◌then◌, ◌fails◌, exits, passes, took}
use Rattle.nres_syntax.proofs.Values as values
use Rattle.nres_syntax.proofs.value.value.Goals as goal

pub returns-then-is_fixed-clause-reads : goal.returns-then-is_fixed-clause-reads
returns-then-is_fixed-clause-reads c = passes values.of_list _ _ (λ k. k) (λ k. values.lists (took c.peek-next.ensures.next c.take.ensures.rest c.take.ensures.operators) (c.is_fixed.ensures.yes c.if-is_fixed.true)) (λ y k. going.stay) c.bracketed.ensures.reads

pub returns-then-is_fixed-2-clause-reads : goal.returns-then-is_fixed-2-clause-reads
returns-then-is_fixed-2-clause-reads c = passes braces _ _ (λ k. k) (λ k. values.braced (took c.peek-next.ensures.next c.take-then-is_fixed-2.ensures.rest c.take-then-is_fixed-2.ensures.operators) (c.is_fixed-2.ensures.yes c.if-is_fixed-2.true)) (λ y k. going.stay) c.braces.ensures.reads

pub returns-then-is_bag-clause-reads : goal.returns-then-is_bag-clause-reads
returns-then-is_bag-clause-reads c = passes values.of_bag _ _ (λ k. k) (λ k. values.bags (took c.peek-next.ensures.next c.take-then-is_bag.ensures.rest c.take-then-is_bag.ensures.operators) (c.is_bag.ensures.yes c.if-is_bag.true)) (λ y k. going.stay) c.bag.ensures.reads

pub returns-in-Number-clause-reads : goal.returns-in-Number-clause-reads
returns-in-Number-clause-reads c = λ k. values.of_number (took c.peek-next.ensures.next c.take-in-Number.ensures.rest c.take-in-Number.ensures.operators) c.in-Number.is

pub returns-in-Truth-clause-reads : goal.returns-in-Truth-clause-reads
returns-in-Truth-clause-reads c = λ k. values.of_truth (took c.peek-next.ensures.next c.take-in-Truth.ensures.rest c.take-in-Truth.ensures.operators) c.in-Truth.is

pub returns-in_default : goal.returns-in_default
returns-in_default c = record {
  reads = λ n k. values.no_value (record { next = c.peek-next.ensures.next }) (c.is_fixed.ensures.no c.if-is_fixed.false) (c.is_fixed-2.ensures.no c.if-is_fixed-2.false) (c.is_bag.ensures.no c.if-is_bag.false) c.in_default.not-Number c.in_default.not-Truth;
  shorter = tt;
}
