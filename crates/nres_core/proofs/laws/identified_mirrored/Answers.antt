use Rattle.nres_core.proofs.Mirrored as mirrored
use Rattle.nres_core.proofs.laws.identified_mirrored.Goals as goal

pub returns : goal.returns
returns c = mirrored.id_mirrored
