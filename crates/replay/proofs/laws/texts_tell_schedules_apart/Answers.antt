use Rattle.replay.proofs.Apart.{apart}
use Rattle.replay.proofs.laws.texts_tell_schedules_apart.Goals as goal

pub returns : goal.returns
returns c = apart
