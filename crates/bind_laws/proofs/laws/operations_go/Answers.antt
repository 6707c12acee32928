use Rattle.bind_laws.proofs.Goings.{operations_go}
use Rattle.bind_laws.proofs.laws.operations_go.Goals as goal

pub returns : goal.returns
returns c = operations_go
