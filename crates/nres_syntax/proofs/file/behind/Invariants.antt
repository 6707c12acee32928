use Rattle.std.proofs.Common.{◌≤◌, [], List, length}
use Rattle.nres_core.specs.Texts.{operators}
use Rattle.nres_core.specs.declared.tree.Fun.{Fun}
use Rattle.nres_core.specs.declared.tree.With.{With}
use Rattle.nres_automaton.specs.Cursor.{left}
use Rattle.nres_automaton.specs.Automaton.{Found, Moves, funs, withs}
use Rattle.nres_syntax.proofs.file.behind.Given as goal

abbrev pub invariant-each : goal.invariant-each
invariant-each l = record {
  shorter : length (left l.cursor).0 ≤ length (left l.fn.cursor).0;
  reads : (k : List Fun → List With → Found) → Moves operators 64 (left l.fn.cursor) (funs [] k) 64 (left l.cursor) (funs l.funs k);
}

abbrev pub decreases-each : goal.decreases-each
decreases-each l = length (left l.cursor).0
