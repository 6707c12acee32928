use Rattle.target_meaning.specs.Held.{left_takes, right_takes}
use Rattle.target_meaning.proofs.Keeps.{takes_sum, fork_sum}
use Rattle.target_meaning.proofs.laws.takings.Goals as goal

pub returns : goal.returns
returns c = record { parts = takes_sum; fork = λ p l r. fork_sum p (left_takes l) (right_takes l r) }
