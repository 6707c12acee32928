use Rattle.flatten_laws.proofs.NeedsLemmas.{need_is_bounded}
use Rattle.flatten_laws.proofs.sizes.need_is_bounded.Goals as goal

pub returns : goal.returns
returns c = need_is_bounded
