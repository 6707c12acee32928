use Rattle.nres_core.proofs.FirstText as text
use Rattle.nres_core.proofs.laws.first_has_tree.Goals as goal

pub returns : goal.returns
returns c = text.first_has_tree
