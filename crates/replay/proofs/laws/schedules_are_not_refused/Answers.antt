use Rattle.replay.proofs.Apart.{not_refused}
use Rattle.replay.proofs.laws.schedules_are_not_refused.Goals as goal

pub returns : goal.returns
returns c = not_refused
