use Rattle.bare_holds.proofs.Walked.{asks_end}
use Rattle.bare_holds.proofs.laws.ends_asked.Goals as goal

pub returns : goal.returns
returns c = asks_end
