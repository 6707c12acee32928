use Rattle.image_laws.proofs.Encodes.{images_represent}
use Rattle.image_laws.proofs.laws.images_represent.Goals as goal

pub returns : goal.returns
returns c = images_represent
