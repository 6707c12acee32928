use Rattle.context_laws.proofs.MarksLemmas.{went_falls}
use Rattle.context_laws.proofs.laws.trail_goes.Goals as goal

pub returns : goal.returns
returns c = went_falls
