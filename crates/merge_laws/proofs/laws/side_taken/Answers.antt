use Rattle.std.proofs.Common.{sym}
use Rattle.merge_laws.proofs.laws.side_taken.Goals as goal

pub returns : goal.returns
returns c = λ x m is w. sym w
