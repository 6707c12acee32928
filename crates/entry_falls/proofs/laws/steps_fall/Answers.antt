use Rattle.entry_falls.proofs.FallsLemmas.{steps_fall}
use Rattle.entry_falls.proofs.laws.steps_fall.Goals as goal

pub returns : goal.returns
returns c = steps_fall
