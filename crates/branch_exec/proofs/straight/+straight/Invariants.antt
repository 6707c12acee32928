use Rattle.std.specs.Prelude.{◌≤◌, ◌+◌, ◌-◌, ◌*◌}
use Rattle.branch_exec.specs.Straight.{FrameRan, IsAmong}
use Rattle.branch_exec.proofs.Inside.{InLoop}
use Rattle.target_meaning.specs.declared.place.Inner.TheVariants.{Cond}
use Rattle.branch_exec.proofs.straight.+straight.Given as goal

abbrev pub decreases-run_list : goal.decreases-run_list
decreases-run_list g l = 3 * l.most + 2

abbrev pub decreases-run_instr : goal.decreases-run_instr
decreases-run_instr g l = 3 * l.most + 1

abbrev pub decreases-run_if : goal.decreases-run_if
decreases-run_if g l = 3 * l.most

abbrev pub decreases-run_while : goal.decreases-run_while
decreases-run_while g l = 3 * l.most

abbrev pub invariant-run_list-instructions : goal.invariant-run_list-instructions
invariant-run_list-instructions g l =
    FrameRan l.procs l.initial.frame (g.S.Store.kept l.initial.store) l.frame (g.S.Store.kept l.store) l.most l.made
    × IsAmong l.initial.frame l.frame

abbrev pub decreases-run_list-instructions : goal.decreases-run_list-instructions
decreases-run_list-instructions g l = l.most - l.made

abbrev pub invariant-run_while-turns : goal.invariant-run_while-turns
invariant-run_while-turns g l =
    FrameRan l.procs l.fn.frame (g.S.Store.kept l.fn.store) l.frame (g.S.Store.kept l.store) l.most l.made
    × InLoop l.fn.frame l.frame Cond
    × (1 ≤ l.made)

abbrev pub decreases-run_while-turns : goal.decreases-run_while-turns
decreases-run_while-turns g l = l.most - l.made
