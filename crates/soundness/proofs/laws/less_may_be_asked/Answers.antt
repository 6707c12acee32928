use Rattle.soundness.proofs.Bounds.{sound_carried, bounds_carried}
use Rattle.soundness.proofs.laws.less_may_be_asked.Goals as goal

pub returns : goal.returns
returns g c = record {
  sound = λ a b. sound_carried (g.A.Asks.asked a) (g.B.Asks.asked b);
  bounded = λ a b. bounds_carried (g.A.Asks.asked a) (g.B.Asks.asked b);
}
