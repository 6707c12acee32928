use Rattle.prints_checked.proofs.Binds.{binds_agree}
use Rattle.prints_checked.proofs.Wholes.{wholes_agree}
use Rattle.prints_checked.proofs.laws.printing_agrees.Goals as goal

pub returns : goal.returns
returns c = record { binds = binds_agree; wholes = wholes_agree }
