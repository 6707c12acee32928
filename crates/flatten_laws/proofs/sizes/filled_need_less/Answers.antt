use Rattle.flatten_laws.proofs.NeedsLemmas.{filled_need_less}
use Rattle.flatten_laws.proofs.sizes.filled_need_less.Goals as goal

pub returns : goal.returns
returns c = filled_need_less
