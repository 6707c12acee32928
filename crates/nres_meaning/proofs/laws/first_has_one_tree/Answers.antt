use Rattle.nres_meaning.proofs.OneTree as tree
use Rattle.nres_meaning.proofs.laws.first_has_one_tree.Goals as goal

pub returns : goal.returns
returns c = tree.one_tree
