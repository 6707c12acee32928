use Rattle.triple_logic.proofs.Parts.{takes_give, takes_keep, can_take}
use Rattle.triple_logic.proofs.laws.hands_and_lends.Goals as goal

pub returns : goal.returns
returns c = record { given = takes_give; kept = takes_keep; taken = can_take }
