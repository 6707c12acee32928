use Rattle.bind_laws.proofs.Goings.{ends_go}
use Rattle.bind_laws.proofs.laws.ends_go.Goals as goal

pub returns : goal.returns
returns c = ends_go
