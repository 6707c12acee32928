use Rattle.std.proofs.Common.{◌≡◌, drop}
use Rattle.target_meaning.specs.Leaf.{find}
use Rattle.fit_state.proofs.view.find_proc.Given as goal

abbrev pub invariant-each : goal.invariant-each
invariant-each l = find l.procs l.name ≡ find (drop l.proc-index l.procs) l.name
