use Rattle.sound_kept.proofs.Kept.{flat_tree_refines}
use Rattle.sound_kept.proofs.laws.flat_tree_refines.Goals as goal

pub returns : goal.returns
returns c = flat_tree_refines
