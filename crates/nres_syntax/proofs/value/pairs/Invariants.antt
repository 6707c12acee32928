use Rattle.std.proofs.Common.{ℕ, ◌≤◌, List, length}
use Rattle.nres_core.specs.Texts.{operators}
use Rattle.nres_automaton.specs.Cursor.{left}
use Rattle.nres_automaton.specs.Automaton.{Mode, Moves, numbers, pair_of}
use Rattle.nres_syntax.proofs.value.pairs.Given as goal

abbrev pub invariant-each : goal.invariant-each
invariant-each l = record {
  shorter : length (left l.cursor).0 ≤ length (left l.fn.cursor).0;
  reads : (k : List (ℕ × ℕ) → Mode) → Moves operators l.room (left l.fn.cursor) (pair_of l.fn.all k l.first) l.room (left l.cursor) (pair_of l.all k l.key);
}

abbrev pub decreases-each : goal.decreases-each
decreases-each l = length (left l.cursor).0
