use Rattle.image_laws.proofs.Exact.{images_are_read}
use Rattle.image_laws.proofs.laws.images_are_read.Goals as goal

pub returns : goal.returns
returns c = images_are_read
