use Rattle.replay_laws.proofs.Calm.{sound_is_calm}
use Rattle.replay_laws.proofs.laws.sound_programs_are_calm.Goals as goal

pub returns : goal.returns
returns g c a = sound_is_calm _ c.races_are_told.ensures c.stuck_leaves_are_told.ensures.stuck
