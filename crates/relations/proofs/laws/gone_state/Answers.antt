use Rattle.relations.proofs.Tables.{gone_state}
use Rattle.relations.proofs.laws.gone_state.Goals as goal

pub returns : goal.returns
returns c = gone_state
