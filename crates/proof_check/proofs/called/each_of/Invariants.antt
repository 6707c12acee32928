use Rattle.std.proofs.Common.{◌≡◌, ◌++◌, drop}
use Rattle.proof_check.specs.Whole.{procs_at}
use Rattle.proof_check.proofs.called.each_of.Given as goal

abbrev pub invariant-each : goal.invariant-each
invariant-each l = procs_at l.list.items ++ drop l.proc-index l.procs ≡ l.procs
