use Rattle.soundness.proofs.Made.{made_has_shape}
use Rattle.soundness.proofs.laws.made_has_shape.Goals as goal

pub returns : goal.returns
returns c = made_has_shape
