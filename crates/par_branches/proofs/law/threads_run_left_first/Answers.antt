use Rattle.branch_exec.specs.Forks.{room_of}
use Rattle.branch_exec.proofs.Lefts.{done_left}
use Rattle.par_branches.proofs.law.threads_run_left_first.Goals as goal
use Rattle.std.proofs.Common.{false}

pub returns : goal.returns
returns c = λ T v s regs steps t i. done_left false T v.budget (room_of v.path) v.path v.stack s v.done regs steps t i
