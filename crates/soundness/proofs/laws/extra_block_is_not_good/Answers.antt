use Rattle.soundness.proofs.Ends.{extra_block_is_not_good}
use Rattle.soundness.proofs.laws.extra_block_is_not_good.Goals as goal

pub returns : goal.returns
returns g c a = extra_block_is_not_good (g.A.Asks.asked a)
