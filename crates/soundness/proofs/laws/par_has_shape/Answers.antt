use Rattle.soundness.proofs.Shapes.{par_has_shape}
use Rattle.soundness.proofs.laws.par_has_shape.Goals as goal

pub returns : goal.returns
returns c = par_has_shape
