use Rattle.triple_logic.proofs.Copy.{copy_law}
use Rattle.triple_logic.proofs.laws.copy.Goals as goal

pub returns : goal.returns
returns c = copy_law
