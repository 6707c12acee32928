use Rattle.flatten_laws.proofs.TypedWholes.{typed_trees_stay_typed}
use Rattle.flatten_laws.proofs.typing.typed_trees_stay_typed.Goals as goal

pub returns : goal.returns
returns c = typed_trees_stay_typed
