use Rattle.target_meaning.proofs.Local.{step_local}
use Rattle.target_meaning.proofs.laws.steps_are_local.Goals as goal

pub returns : goal.returns
returns c = λ room T f t h path x fine hs. step_local room T f t h path x fine hs
