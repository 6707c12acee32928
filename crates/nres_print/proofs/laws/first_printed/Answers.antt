use Rattle.nres_print.proofs.Samples as law
use Rattle.nres_print.proofs.laws.first_printed.Goals as goal

pub returns : goal.returns
returns c = law.first_printed
