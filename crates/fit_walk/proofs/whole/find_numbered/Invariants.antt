use Rattle.std.proofs.Common.{◌≡◌, drop}
use Rattle.fits.specs.Follow.{proc_name}
use Rattle.target_meaning.specs.Leaf.{find}
use Rattle.fit_walk.proofs.whole.find_numbered.Given as goal

abbrev pub invariant-each : goal.invariant-each
invariant-each l = find l.procs (proc_name l.number) ≡ find (drop l.proc-index l.procs) (proc_name l.number)
