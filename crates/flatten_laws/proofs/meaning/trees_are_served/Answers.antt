use Rattle.flatten_laws.proofs.TypedServed.{trees_are_served}
use Rattle.flatten_laws.proofs.meaning.trees_are_served.Goals as goal

pub returns : goal.returns
returns c = trees_are_served
