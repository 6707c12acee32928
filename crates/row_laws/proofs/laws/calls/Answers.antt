use Rattle.row_laws.proofs.CallsLemmas.{row_use}
use Rattle.row_laws.proofs.laws.calls.Goals as goal

pub returns : goal.returns
returns c = row_use
