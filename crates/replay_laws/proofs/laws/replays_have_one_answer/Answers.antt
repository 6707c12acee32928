use Rattle.replay_laws.proofs.One.{one_answer}
use Rattle.replay_laws.proofs.laws.replays_have_one_answer.Goals as goal

pub returns : goal.returns
returns c = one_answer
