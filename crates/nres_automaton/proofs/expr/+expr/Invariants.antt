use Rattle.std.proofs.Common.{◌≡◌, ◌≤◌, ◌-◌, ◌+◌, ◌*◌, [], length}
use Rattle.nres_core.specs.declared.tree.Expr.{Expr}
use Rattle.nres_core.specs.Texts.{operators}
use Rattle.nres_automaton.specs.Cursor.{left}
use Rattle.nres_automaton.specs.Automaton.{Mode, Moves, opened, tail, atoms}
use Rattle.nres_automaton.proofs.expr.+expr.Given as goal

abbrev pub decreases-atom : goal.decreases-atom
decreases-atom l = 16 * length (left l.cursor.now).0

abbrev pub decreases-calculation : goal.decreases-calculation
decreases-calculation l = 16 * length (left l.cursor.now).0 + 1

abbrev pub decreases-zeros : goal.decreases-zeros
decreases-zeros l = 16 * length (left l.cursor.now).0 + 1

abbrev pub decreases-arguments : goal.decreases-arguments
decreases-arguments l = 16 * length (left l.cursor.now).0 + 1

abbrev pub decreases-unary : goal.decreases-unary
decreases-unary l = 16 * length (left l.cursor.now).0 + 2

abbrev pub decreases-level : goal.decreases-level
decreases-level l = 16 * length (left l.cursor.now).0 + 3

abbrev pub decreases-go_on : goal.decreases-go_on
decreases-go_on l = 16 * length (left l.cursor.now).0 + 4 + l.loosest

abbrev pub invariant-go_on-signs : goal.invariant-go_on-signs
invariant-go_on-signs l = record {
  shorter : length (left l.cursor).0 ≤ length (left l.fn.cursor).0;
  reads : (k : Expr → Mode) → Moves operators l.room (left l.fn.cursor) (opened l.loosest l.place k l.fn.first) l.room (left l.cursor) (tail (l.loosest - 1) l.place l.sum k);
}

abbrev pub decreases-go_on-signs : goal.decreases-go_on-signs
decreases-go_on-signs l = length (left l.cursor).0

abbrev pub invariant-arguments-each : goal.invariant-arguments-each
invariant-arguments-each l = record {
  shorter : length (left l.cursor).0 ≤ length (left l.fn.cursor).0;
  reads : (k : Expr → Mode) → Moves operators l.room (left l.fn.cursor) (atoms l.place l.fn.word [] l.count k) l.room (left l.cursor) (atoms l.place l.fn.word l.args (l.count - l.counter) k);
}
