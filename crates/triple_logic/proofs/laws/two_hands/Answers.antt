use Rattle.triple_logic.proofs.Pair.{pair_law, calm_law}
use Rattle.triple_logic.proofs.laws.two_hands.Goals as goal

pub returns : goal.returns
returns c = record { safe = pair_law; calm = calm_law }
