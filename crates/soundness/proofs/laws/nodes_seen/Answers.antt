use Rattle.soundness.proofs.Shapes.{nodes_seen}
use Rattle.soundness.proofs.laws.nodes_seen.Goals as goal

pub returns : goal.returns
returns c = nodes_seen
