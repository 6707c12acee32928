use Rattle.bind_laws.proofs.Goings.{calls_go}
use Rattle.bind_laws.proofs.laws.calls_go.Goals as goal

pub returns : goal.returns
returns c = calls_go
