use Rattle.replay.proofs.Standing.{stuck_told, told_stuck}
use Rattle.replay.proofs.laws.stuck_leaves_are_told.Goals as goal

pub returns : goal.returns
returns c = record { found = stuck_told; stuck = told_stuck }
