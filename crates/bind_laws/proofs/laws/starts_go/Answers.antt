use Rattle.bind_laws.proofs.Goings.{starts_go}
use Rattle.bind_laws.proofs.laws.starts_go.Goals as goal

pub returns : goal.returns
returns c = starts_go
