use Rattle.std.proofs.Common.{ℕ, ◌≤◌, List, length}
use Rattle.nres_core.specs.Texts.{operators}
use Rattle.nres_automaton.specs.Cursor.{left}
use Rattle.nres_automaton.specs.Automaton.{Mode, Moves, numbers, pair_of}
use Rattle.nres_syntax.proofs.value.numbers.Given as goal

abbrev pub invariant-each : goal.invariant-each
invariant-each l = record {
  shorter : length (left l.cursor).0 ≤ length (left l.fn.cursor).0;
  reads : (k : List ℕ → Mode) → Moves operators l.room (left l.fn.cursor) (numbers l.close l.fn.all k) l.room (left l.cursor) (numbers l.close l.all k);
}

abbrev pub decreases-each : goal.decreases-each
decreases-each l = length (left l.cursor).0
