use Rattle.nres_core.proofs.Sizes as sizes
use Rattle.nres_core.proofs.laws.no_larger_with_its_loops.Goals as goal

pub returns : goal.returns
returns c = sizes.no_larger_with_loops
