use Rattle.std.proofs.Common.{rules, arith, ℕ, ◌≡◌, ◌<◌, ◌≤◌, ◌-◌, ◌+◌, [], ◌∷◌, ◌++◌, length, cond, true, false, ap, ◌∙◌, sym, refl, subst}
use Rattle.std.specs.FinMap as maps
use Rattle.std.specs.FinSet as sets
use Rattle.containers.specs.Bag.{bag_of}
use Rattle.nres_core.specs.Texts.{put_all}
use Rattle.nres_core.specs.declared.value.Value.TheVariants as v
use Rattle.nres_automaton.specs.Cursor.{left}
use Rattle.nres_automaton.specs.Automaton.{Mode, Reads, pass, when, leave, comma_or, numbers, numbers_read, members, pairs, pair_of, braces, value}
use Rattle.nres_automaton.specs.declared.lexeme.Fixed.TheVariants as fixed
use Rattle.nres_automaton.proofs.Going as going
use Rattle.nres_automaton.proofs.Going.{◌then◌, ◌fails◌, exits, passes, took}
use Rattle.nres_syntax.proofs.Values as values
use Rattle.nres_syntax.proofs.value.number.Goals as goal

pub returns-in-Number-clause-reads : goal.returns-in-Number-clause-reads
returns-in-Number-clause-reads c = λ k. values.reads_number (took c.peek-next.ensures.next c.take.ensures.rest c.take.ensures.operators) c.in-Number.is

pub returns-in_default : goal.returns-in_default
returns-in_default c = record {
  reads = λ n k. values.no_number (record { next = c.peek-next.ensures.next }) c.in_default.not-Number;
  shorter = tt;
}
