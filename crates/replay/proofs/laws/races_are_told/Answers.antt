use Rattle.replay.proofs.Racing.{races_told}
use Rattle.replay.proofs.laws.races_are_told.Goals as goal

pub returns : goal.returns
returns c = races_told
