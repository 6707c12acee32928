use Rattle.std.proofs.Common.{◌≡◌, drop}
use Rattle.same_procs.specs.Same.{same_proc}
use Rattle.unfit_line.specs.Tests.{are_of}
use Rattle.proof_check.proofs.parts.are_of.Given as goal

abbrev pub invariant-loop-proc : goal.invariant-loop-proc
invariant-loop-proc l = are_of same_proc l.procs l.others ≡ are_of same_proc (drop l.proc-index l.procs) l.others
