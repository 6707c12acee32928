use Rattle.triple_logic.proofs.Teeth.{great_claim}
use Rattle.triple_logic.proofs.laws.great_claim_is_refused.Goals as goal

pub returns : goal.returns
returns g c e T b a d = great_claim T (g.E.Outcome.meets e) b a d
