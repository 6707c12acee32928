use Rattle.std.proofs.Common.{length}
use Rattle.proof_text.proofs.Parting.{IsBehind}
use Rattle.proof_text.proofs.sections.parted.Given as goal

abbrev pub invariant-each : goal.invariant-each
invariant-each l = IsBehind l.words l.text l.rest

abbrev pub decreases-each : goal.decreases-each
decreases-each l = length l.rest
