use Rattle.target_meaning.proofs.Covers.{covers_kept, not_live}
use Rattle.target_meaning.proofs.laws.live_is_held.Goals as goal

pub returns : goal.returns
returns c = record { step = covers_kept; dead = not_live }
