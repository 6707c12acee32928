use Rattle.identify_laws.proofs.Typed.{typed_exactly}
use Rattle.identify_laws.proofs.typing.typed_exactly.Goals as goal

pub returns : goal.returns
returns c = typed_exactly
