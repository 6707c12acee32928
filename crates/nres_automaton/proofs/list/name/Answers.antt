use Rattle.std.proofs.Common.{rules, arith, ◌≡◌, ◌<◌, ◌≤◌, ◌-◌, ◌+◌, [], ◌∷◌, ◌++◌, length, cond, true, false, ap, ◌∙◌, sym, refl}
use Rattle.nres_automaton.specs.Cursor.{left}
use Rattle.nres_automaton.proofs.Going as going
use Rattle.nres_automaton.proofs.Going.{◌then◌, ◌fails◌, exits, passes, took}
use Rattle.nres_automaton.proofs.Exprs as exprs
use Rattle.nres_automaton.proofs.Items as items
use Rattle.nres_automaton.proofs.list.name.Goals as goal

pub returns-in_ok-name-in-Name-clause-reads : goal.returns-in_ok-name-in-Name-clause-reads
returns-in_ok-name-in-Name-clause-reads c = λ k. items.names (took c.peek-next.ensures.next c.take.ensures.rest c.take.ensures.operators) c.in-Name.is (c.in_ok-name-in-Name.ensures ∙ c.bytes.ensures)

pub returns-in_default : goal.returns-in_default
returns-in_default c = record {
  reads = λ n k. items.no_name (record { next = c.peek-next.ensures.next }) c.in_default.not-Name;
  shorter = tt;
}
