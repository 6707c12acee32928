use Rattle.same_procs.proofs.Equals.{equals_are_told}
use Rattle.same_procs.proofs.laws.equal_procedures_are_told.Goals as goal

pub returns : goal.returns
returns c = equals_are_told
