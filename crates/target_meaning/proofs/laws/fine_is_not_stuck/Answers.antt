use Rattle.target_meaning.proofs.Stuck.{no_stuck}
use Rattle.target_meaning.proofs.laws.fine_is_not_stuck.Goals as goal

pub returns : goal.returns
returns c = no_stuck
