use Rattle.merge_laws.proofs.SidesLemmas.{meets}
use Rattle.merge_laws.proofs.laws.sides_meet.Goals as goal

pub returns : goal.returns
returns c = meets
