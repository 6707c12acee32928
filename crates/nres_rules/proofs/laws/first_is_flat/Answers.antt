use Rattle.nres_rules.proofs.FirstFlat as flat
use Rattle.nres_rules.proofs.laws.first_is_flat.Goals as goal

pub returns : goal.returns
returns c = flat.first_is_flat
