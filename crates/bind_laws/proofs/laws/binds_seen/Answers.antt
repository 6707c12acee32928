use Rattle.bind_laws.proofs.Bindings.{binds_seen}
use Rattle.bind_laws.proofs.laws.binds_seen.Goals as goal

pub returns : goal.returns
returns c = binds_seen
