use Rattle.flatten_laws.proofs.ServedWholes.{typed_are_served}
use Rattle.flatten_laws.proofs.meaning.typed_are_served.Goals as goal

pub returns : goal.returns
returns c = typed_are_served
