use Rattle.std.proofs.Common.{refl}
use Rattle.soundness.proofs.laws.names_seen.Goals as goal

pub returns : goal.returns
returns c = refl
