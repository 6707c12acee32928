use Rattle.std.proofs.Common.{refl}
use Rattle.nres_rules.proofs.laws.flat_seen.Goals as goal

pub returns : goal.returns
returns c = record { typed = refl; binds = refl; results = refl; names = refl; flat_typed = refl }
