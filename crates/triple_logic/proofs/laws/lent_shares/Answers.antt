use Rattle.triple_logic.proofs.Parts.{half_least, can_lend, power_step}
use Rattle.triple_logic.proofs.laws.lent_shares.Goals as goal

pub returns : goal.returns
returns c = record { halves = half_least; can_halve = can_lend; power = power_step }
