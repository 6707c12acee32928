use Rattle.typing_laws.proofs.FormedLemmas.{texts_are_formed}
use Rattle.typing_laws.proofs.laws.texts_are_formed.Goals as goal

pub returns : goal.returns
returns c = texts_are_formed
