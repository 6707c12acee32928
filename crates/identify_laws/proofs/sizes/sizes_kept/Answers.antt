use Rattle.identify_laws.proofs.TreesLemmas.{sizes_kept}
use Rattle.identify_laws.proofs.sizes.sizes_kept.Goals as goal

pub returns : goal.returns
returns c = sizes_kept
