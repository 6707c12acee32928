use Rattle.std.specs.Prelude.{◌-◌}
use Rattle.branch_exec.specs.Straight.{FrameRan}
use Rattle.branch_exec.proofs.straight.run_frame.Given as goal

abbrev pub invariant-lists : goal.invariant-lists
invariant-lists g l =
    FrameRan l.procs l.initial.frame (g.S.Store.kept l.initial.store) l.frame (g.S.Store.kept l.store) l.most l.made

abbrev pub decreases-lists : goal.decreases-lists
decreases-lists g l = l.most - l.made
