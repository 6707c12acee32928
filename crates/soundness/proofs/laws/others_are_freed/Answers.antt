use Rattle.soundness.proofs.Ends.{others_are_freed}
use Rattle.soundness.proofs.laws.others_are_freed.Goals as goal

pub returns : goal.returns
returns g c a = others_are_freed (g.A.Asks.asked a)
