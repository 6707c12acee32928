use Rattle.range_split.proofs.FaultsLemmas.{split_refused}
use Rattle.range_split.proofs.laws.split_refused.Goals as goal

pub returns : goal.returns
returns c = split_refused
