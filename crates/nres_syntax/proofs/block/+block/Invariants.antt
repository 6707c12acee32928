use Rattle.std.proofs.Common.{◌≤◌, ◌+◌, ◌*◌, [], length}
use Rattle.nres_core.specs.Texts.{operators}
use Rattle.nres_core.specs.declared.tree.Block.{Block}
use Rattle.nres_automaton.specs.Cursor.{left}
use Rattle.nres_automaton.specs.Automaton.{Mode, Moves, steps}
use Rattle.nres_syntax.proofs.block.+block.Given as goal

abbrev pub decreases-body : goal.decreases-body
decreases-body l = 8 * length (left l.cursor.now).0 + 0

abbrev pub decreases-step : goal.decreases-step
decreases-step l = 8 * length (left l.cursor.now).0 + 1

abbrev pub decreases-block : goal.decreases-block
decreases-block l = 8 * length (left l.cursor.now).0 + 2

abbrev pub decreases-block_to : goal.decreases-block_to
decreases-block_to l = 8 * length (left l.cursor.now).0 + 3

abbrev pub decreases-named_block : goal.decreases-named_block
decreases-named_block l = 8 * length (left l.cursor.now).0 + 4

abbrev pub decreases-if_body : goal.decreases-if_body
decreases-if_body l = 8 * length (left l.cursor.now).0 + 4

abbrev pub decreases-while_body : goal.decreases-while_body
decreases-while_body l = 8 * length (left l.cursor.now).0 + 4

abbrev pub decreases-par_body : goal.decreases-par_body
decreases-par_body l = 8 * length (left l.cursor.now).0 + 4

abbrev pub decreases-split_body : goal.decreases-split_body
decreases-split_body l = 8 * length (left l.cursor.now).0 + 5

abbrev pub decreases-either_body : goal.decreases-either_body
decreases-either_body l = 8 * length (left l.cursor.now).0 + 4

abbrev pub decreases-foreach_body : goal.decreases-foreach_body
decreases-foreach_body l = 8 * length (left l.cursor.now).0 + 4

abbrev pub decreases-opened : goal.decreases-opened
decreases-opened l = 8 * length (left l.cursor.now).0 + 6

abbrev pub invariant-block-each : goal.invariant-block-each
invariant-block-each l = record {
  shorter : length (left l.cursor).0 ≤ length (left l.fn.cursor).0;
  reads : (k : Block → Mode) → Moves operators l.room (left l.fn.cursor) (steps [] k) l.room (left l.cursor) (steps l.steps k);
}

abbrev pub decreases-block-each : goal.decreases-block-each
decreases-block-each l = length (left l.cursor).0
