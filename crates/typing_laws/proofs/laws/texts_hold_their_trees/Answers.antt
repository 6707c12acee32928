use Rattle.typing_laws.proofs.TokensLemmas.{texts_hold_their_trees}
use Rattle.typing_laws.proofs.laws.texts_hold_their_trees.Goals as goal

pub returns : goal.returns
returns c = texts_hold_their_trees
