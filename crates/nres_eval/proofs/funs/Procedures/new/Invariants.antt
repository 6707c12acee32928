use Rattle.std.proofs.Common.{◌≡◌, ◌≤◌, drop, length}
use Rattle.nres_eval.specs.Procedures.{numbered}
use Rattle.nres_eval.proofs.funs.Procedures.new.Given as goal

abbrev pub invariant-loop-at : goal.invariant-loop-at
invariant-loop-at l = (l.at ≤ length l.funs) × (l.places ≡ numbered (drop l.at l.funs) l.at)

abbrev pub decreases-loop-at : goal.decreases-loop-at
decreases-loop-at l = l.at
