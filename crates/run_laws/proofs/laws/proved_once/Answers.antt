use Rattle.std.proofs.Common.{ℕ, ◌≤◌, arith}
use Rattle.run_laws.proofs.AtMost.{at_most}
use Rattle.run_laws.proofs.BoundedLaws.{bounded_laws}
use Rattle.run_laws.proofs.laws.proved_once.Goals as goal

le_same : (n : ℕ) → n ≤ n
le_same n = omega arith

pub returns : goal.returns
returns g c = record {
  safe = λ x n. (g.R.Proved.by_laws x).proved (at_most (g.R.Proved.by_laws x).procs n) n (le_same n);
  bounded = λ x. (g.R.Proved.by_laws x).proved (bounded_laws (g.R.Proved.by_laws x).procs) 0;
}
