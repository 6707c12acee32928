use Rattle.typing_laws.proofs.TypingsLemmas.{texts_have_typings}
use Rattle.typing_laws.proofs.laws.texts_have_typings.Goals as goal

pub returns : goal.returns
returns c = texts_have_typings
