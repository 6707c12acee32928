use Rattle.flat_paths.proofs.Stated.{meant_by_paths}
use Rattle.flat_paths.proofs.laws.meant_by_paths.Goals as goal

pub returns : goal.returns
returns c = meant_by_paths
