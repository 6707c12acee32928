use Rattle.flatten_laws.proofs.TypedTexts.{flat_trees_of_texts_are_typed}
use Rattle.flatten_laws.proofs.typing.flat_trees_of_texts_are_typed.Goals as goal

pub returns : goal.returns
returns c = flat_trees_of_texts_are_typed
