use Rattle.soundness.proofs.Shapes.{first_has_shape}
use Rattle.soundness.proofs.laws.first_has_shape.Goals as goal

pub returns : goal.returns
returns c = first_has_shape
