use Rattle.branch_depths.proofs.Shallow.{branch_shallow}
use Rattle.branch_depths.proofs.laws.branches_are_shallow.Goals as goal

pub returns : goal.returns
returns c = branch_shallow
