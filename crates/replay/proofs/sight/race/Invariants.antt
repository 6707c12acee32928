use Rattle.std.proofs.Common.{◌≡◌, length}
use Rattle.replay.specs.Sights as spec
use Rattle.replay.proofs.sight.race.Given as goal

abbrev pub invariant-loop-rest : goal.invariant-loop-rest
invariant-loop-rest l = spec.first_race l.rest ≡ spec.first_race l.views

abbrev pub decreases-loop-rest : goal.decreases-loop-rest
decreases-loop-rest l = length l.rest
