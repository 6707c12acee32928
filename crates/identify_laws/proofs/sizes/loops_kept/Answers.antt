use Rattle.identify_laws.proofs.TreesLemmas.{loops_kept}
use Rattle.identify_laws.proofs.sizes.loops_kept.Goals as goal

pub returns : goal.returns
returns c = loops_kept
