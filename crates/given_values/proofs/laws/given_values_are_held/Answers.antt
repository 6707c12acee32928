use Rattle.given_values.proofs.Held.{given_held}
use Rattle.given_values.proofs.laws.given_values_are_held.Goals as goal

pub returns : goal.returns
returns c = given_held
