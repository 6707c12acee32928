use Rattle.image_laws.proofs.Encodes.{values_have_images}
use Rattle.image_laws.proofs.laws.values_have_images.Goals as goal

pub returns : goal.returns
returns c = values_have_images
