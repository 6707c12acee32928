use Rattle.nres_core.proofs.Sizes as sizes
use Rattle.nres_core.proofs.laws.no_larger_than_its_text.Goals as goal

pub returns : goal.returns
returns c = sizes.no_larger
