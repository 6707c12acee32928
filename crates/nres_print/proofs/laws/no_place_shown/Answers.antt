use Rattle.nres_print.proofs.Places as law
use Rattle.nres_print.proofs.laws.no_place_shown.Goals as goal

pub returns : goal.returns
returns c = law.no_place_shown
