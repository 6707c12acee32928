use Rattle.rule_forks.proofs.StepsOfForks.{par_steps}
use Rattle.rule_forks.proofs.laws.par_steps.Goals as goal

pub returns : goal.returns
returns c = par_steps
