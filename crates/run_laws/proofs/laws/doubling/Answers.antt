use Rattle.run_laws.proofs.BoundedLaws.{bounded_laws}
use Rattle.run_laws.proofs.Doubling.{doubled}
use Rattle.run_laws.proofs.SafeLaws.{safe_laws}
use Rattle.run_laws.proofs.laws.doubling.Goals as goal

pub returns : goal.returns
returns c = record {
  safe = λ T n f x p. doubled T (safe_laws T) n f x p;
  bounded = λ T f x p. doubled T (bounded_laws T) 0 f x p;
}
