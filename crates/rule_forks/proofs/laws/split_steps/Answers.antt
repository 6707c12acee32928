use Rattle.rule_forks.proofs.StepsOfForks.{split_steps}
use Rattle.rule_forks.proofs.laws.split_steps.Goals as goal

pub returns : goal.returns
returns c = split_steps
