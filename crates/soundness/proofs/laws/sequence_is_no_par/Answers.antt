use Rattle.soundness.proofs.Shapes.{sequence_is_no_par}
use Rattle.soundness.proofs.laws.sequence_is_no_par.Goals as goal

pub returns : goal.returns
returns c = sequence_is_no_par
