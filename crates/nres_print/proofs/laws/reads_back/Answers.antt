use Rattle.nres_print.proofs.Specifications as law
use Rattle.nres_print.proofs.laws.reads_back.Goals as goal

pub returns : goal.returns
returns c = law.reads_back
