use Rattle.flatten_laws.proofs.TextNeeds.{texts_need}
use Rattle.flatten_laws.proofs.sizes.texts_need.Goals as goal

pub returns : goal.returns
returns c = texts_need
