use Rattle.replay_causes.proofs.Calm.{sound_is_told}
use Rattle.replay_causes.proofs.laws.sound_replays_are_calm.Goals as goal

pub returns : goal.returns
returns g c a = sound_is_told _ (c.sound_programs_are_calm.ensures a)
