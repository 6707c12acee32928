use Rattle.nres_core.specs.Operations.{meant}
use Rattle.nres_core.proofs.vocabulary.look_up.Goals as goal

pub returns : goal.returns
unfolding meant
returns c = c.in_table.ensures
