use Rattle.range_split.proofs.FaultsLemmas.{par_refused}
use Rattle.range_split.proofs.laws.par_refused.Goals as goal

pub returns : goal.returns
returns c = par_refused
