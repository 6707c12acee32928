use Rattle.soundness.proofs.Endless.{endless_has_no_bound}
use Rattle.soundness.proofs.laws.endless_has_no_bound.Goals as goal

pub returns : goal.returns
returns g c a = endless_has_no_bound (g.A.Asks.asked a)
