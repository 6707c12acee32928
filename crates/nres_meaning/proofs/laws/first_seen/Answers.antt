use Rattle.nres_meaning.proofs.FirstTree as tree
use Rattle.nres_meaning.proofs.laws.first_seen.Goals as goal

pub returns : goal.returns
returns c = tree.first_seen
