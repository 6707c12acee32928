use Rattle.replay_causes.proofs.One.{one_cause}
use Rattle.replay_causes.proofs.laws.an_input_has_one_cause.Goals as goal

pub returns : goal.returns
returns c = one_cause c.texts_tell_schedules_apart.ensures c.schedules_are_not_refused.ensures c.replays_have_one_answer.ensures
