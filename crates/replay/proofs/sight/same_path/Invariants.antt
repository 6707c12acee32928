use Rattle.std.proofs.Common.{◌≡◌, length}
use Rattle.replay.specs.Sights as spec
use Rattle.replay.proofs.sight.same_path.Given as goal

abbrev pub invariant-loop-left : goal.invariant-loop-left
invariant-loop-left l = spec.same_path l.left l.right ≡ spec.same_path l.first l.second

abbrev pub decreases-loop-left : goal.decreases-loop-left
decreases-loop-left l = length l.left
