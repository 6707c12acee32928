use Rattle.relations.proofs.Tables.{unreached_key}
use Rattle.relations.proofs.laws.unreached_key.Goals as goal

pub returns : goal.returns
returns c = unreached_key
