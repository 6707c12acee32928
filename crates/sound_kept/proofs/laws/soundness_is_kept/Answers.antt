use Rattle.sound_kept.proofs.Kept.{sound_kept, bounds_kept}
use Rattle.sound_kept.proofs.laws.soundness_is_kept.Goals as goal

pub returns : goal.returns
returns c = record { sound = sound_kept; bounded = bounds_kept }
