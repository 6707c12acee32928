use Rattle.std.proofs.Common.{◌≡◌, drop}
use Rattle.same_procs.specs.Same.{same_hands}
use Rattle.same_procs.proofs.same.same_hands.Given as goal

abbrev pub invariant-loop-hand : goal.invariant-loop-hand
invariant-loop-hand l = same_hands l.left l.right ≡ same_hands (drop l.hand-index l.left) l.rest
