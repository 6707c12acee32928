use Rattle.target_meaning.specs.Held.{holdings}
use Rattle.target_meaning.specs.Machine.{counts, nothing}
use Rattle.fewer_procs.proofs.Fewer.{run_alike}
use Rattle.fewer_procs.proofs.laws.fewer_run_alike.Goals as goal

pub returns : goal.returns
returns c = record {
  machine = λ few more k. run_alike nothing few more k;
  counted = λ few more k. run_alike counts few more k;
  held = λ few more k. run_alike holdings few more k;
}
