use Rattle.std.proofs.Common.{length}
use Rattle.proof_text.proofs.Lines.{IsSoFar}
use Rattle.proof_text.proofs.reading.read_proof.Given as goal

abbrev pub invariant-each : goal.invariant-each
invariant-each l = IsSoFar l.bytes l.lines l.rest

abbrev pub decreases-each : goal.decreases-each
decreases-each l = length l.rest
