use Rattle.soundness.proofs.Ends.{first_ends_well}
use Rattle.soundness.proofs.laws.first_ends_well.Goals as goal

pub returns : goal.returns
returns c = first_ends_well
