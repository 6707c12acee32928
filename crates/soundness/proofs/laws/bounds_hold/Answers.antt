use Rattle.soundness.proofs.Bounds.{bounded_ends}
use Rattle.soundness.proofs.SafeEnds.{bounded_from_main}
use Rattle.soundness.proofs.laws.bounds_hold.Goals as goal

pub returns : goal.returns
returns g c = record { bounded = λ a. bounded_ends (g.A.Asks.asked a); from_main = λ a. bounded_from_main (g.A.Asks.asked a) }
