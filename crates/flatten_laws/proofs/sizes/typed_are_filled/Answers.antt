use Rattle.flatten_laws.proofs.FilledLemmas.{typed_are_filled}
use Rattle.flatten_laws.proofs.sizes.typed_are_filled.Goals as goal

pub returns : goal.returns
returns c = typed_are_filled
