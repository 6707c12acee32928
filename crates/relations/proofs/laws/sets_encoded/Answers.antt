use Rattle.relations.proofs.EncodedSets.{sets_encoded}
use Rattle.relations.proofs.laws.sets_encoded.Goals as goal

pub returns : goal.returns
returns c = sets_encoded
