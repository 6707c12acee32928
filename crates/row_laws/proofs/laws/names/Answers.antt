use Rattle.row_laws.proofs.Results.{names_held}
use Rattle.row_laws.proofs.laws.names.Goals as goal

pub returns : goal.returns
returns c = names_held
