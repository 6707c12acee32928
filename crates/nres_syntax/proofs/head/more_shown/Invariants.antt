use Rattle.std.proofs.Common.{◌≤◌, List, length}
use Rattle.nres_core.specs.Texts.{operators}
use Rattle.nres_core.specs.declared.tree.Param.{Param}
use Rattle.nres_core.specs.declared.tree.Shown.{Shown}
use Rattle.nres_automaton.specs.Cursor.{left}
use Rattle.nres_automaton.specs.Automaton.{Mode, Moves, more_shown}
use Rattle.nres_syntax.proofs.head.more_shown.Given as goal

abbrev pub invariant-each : goal.invariant-each
invariant-each l = record {
  shorter : length (left l.cursor).0 ≤ length (left l.fn.cursor).0;
  reads : (k : List Shown → Mode) → Moves operators l.room (left l.fn.cursor) (more_shown l.slices l.fn.all k) l.room (left l.cursor) (more_shown l.slices l.all k);
}

abbrev pub decreases-each : goal.decreases-each
decreases-each l = length (left l.cursor).0
