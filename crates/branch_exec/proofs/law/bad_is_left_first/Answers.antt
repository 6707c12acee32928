use Rattle.branch_exec.proofs.StopsLeft.{bad_left}
use Rattle.branch_exec.proofs.law.bad_is_left_first.Goals as goal

pub returns : goal.returns
returns c = bad_left
