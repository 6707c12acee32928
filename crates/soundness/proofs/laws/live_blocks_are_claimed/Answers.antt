use Rattle.soundness.proofs.Ends.{live_blocks_are_claimed}
use Rattle.soundness.proofs.laws.live_blocks_are_claimed.Goals as goal

pub returns : goal.returns
returns g c a = live_blocks_are_claimed (g.A.Asks.asked a)
