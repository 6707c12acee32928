use Rattle.typing_laws.proofs.FreeNamesLemmas.{names_are_free}
use Rattle.typing_laws.proofs.laws.names_are_free.Goals as goal

pub returns : goal.returns
returns c = names_are_free
