use Rattle.std.proofs.Common.{◌≡◌, ◌++◌, drop}
use Rattle.unfit_line.specs.Tests.{calls_of}
use Rattle.proof_check.specs.Whole.{seen}
use Rattle.proof_check.proofs.calls.in_procs.Given as goal

abbrev pub invariant-each : goal.invariant-each
invariant-each l = seen l.names.items ++ calls_of (drop l.proc-index l.procs) ≡ calls_of l.procs
