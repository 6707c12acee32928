use Rattle.std.proofs.Common.{◌≡◌, drop}
use Rattle.same_procs.specs.Same.{same_proc}
use Rattle.unfit_line.specs.Tests.{is_of}
use Rattle.proof_check.proofs.parts.is_of.Given as goal

abbrev pub invariant-loop-other : goal.invariant-loop-other
invariant-loop-other l = is_of same_proc l.proc l.procs ≡ is_of same_proc l.proc (drop l.other-index l.procs)
