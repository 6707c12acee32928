use Rattle.flatten_laws.proofs.NeedsLemmas.{nests_no_deeper}
use Rattle.flatten_laws.proofs.sizes.nests_no_deeper.Goals as goal

pub returns : goal.returns
returns c = nests_no_deeper
