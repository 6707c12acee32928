use Rattle.nres_core.proofs.FlatMirrored as mirrored
use Rattle.nres_core.proofs.laws.flat_mirrored.Goals as goal

pub returns : goal.returns
returns c = mirrored.flat_mirrored
