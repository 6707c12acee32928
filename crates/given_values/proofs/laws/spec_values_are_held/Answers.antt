use Rattle.given_values.proofs.Behind.{spec_held}
use Rattle.given_values.proofs.laws.spec_values_are_held.Goals as goal

pub returns : goal.returns
returns c = spec_held
