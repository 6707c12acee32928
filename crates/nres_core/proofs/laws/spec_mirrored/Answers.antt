use Rattle.nres_core.proofs.Mirrored as mirrored
use Rattle.nres_core.proofs.laws.spec_mirrored.Goals as goal

pub returns : goal.returns
returns c = mirrored.mirrored
