use Rattle.relations.proofs.Encoded.{images_represent}
use Rattle.relations.proofs.laws.images_represent.Goals as goal

pub returns : goal.returns
returns c = images_represent
