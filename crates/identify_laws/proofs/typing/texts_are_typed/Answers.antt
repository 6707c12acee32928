use Rattle.identify_laws.proofs.Typed.{texts_are_typed}
use Rattle.identify_laws.proofs.typing.texts_are_typed.Goals as goal

pub returns : goal.returns
returns c = texts_are_typed
