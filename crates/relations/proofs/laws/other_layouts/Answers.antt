use Rattle.relations.proofs.Others.{other_layouts}
use Rattle.relations.proofs.laws.other_layouts.Goals as goal

pub returns : goal.returns
returns c = other_layouts
