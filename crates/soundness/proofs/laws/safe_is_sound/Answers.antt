use Rattle.soundness.proofs.SafeEnds as safe
use Rattle.soundness.proofs.laws.safe_is_sound.Goals as goal

pub returns : goal.returns
returns g c = record { sound = λ a. safe.safe_is_sound (g.A.Asks.asked a); from_main = λ a. safe.safe_from_main (g.A.Asks.asked a) }
