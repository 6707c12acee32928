use Rattle.std.proofs.Common.{◌≤◌, List, length}
use Rattle.nres_core.specs.Texts.{operators}
use Rattle.nres_core.specs.declared.place.Named.{Named}
use Rattle.nres_core.specs.declared.tree.Expr.{Expr}
use Rattle.nres_automaton.specs.Cursor.{left}
use Rattle.nres_automaton.specs.Automaton.{Mode, Moves, others}
use Rattle.nres_automaton.proofs.list.others.Given as goal

abbrev pub invariant-each : goal.invariant-each
invariant-each l = record {
  shorter : length (left l.cursor).0 ≤ length (left l.fn.cursor).0;
  reads : (k : List Named → Mode) → Moves operators l.room (left l.fn.cursor) (others l.fn.names k) l.room (left l.cursor) (others l.names k);
}

abbrev pub decreases-each : goal.decreases-each
decreases-each l = length (left l.cursor).0
