use Rattle.sound_kept.proofs.Kept.{represented_are_typed}
use Rattle.sound_kept.proofs.laws.represented_are_typed.Goals as goal

pub returns : goal.returns
returns c = represented_are_typed
