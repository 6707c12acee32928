use Rattle.std.proofs.Common.{◌≡◌, ◌+◌, ◌∷◌, [], drop}
use Rattle.proof_check.specs.Whole.{numbered_front}
use Rattle.proof_check.proofs.names.numbered_front.Given as goal

abbrev pub invariant-each : goal.invariant-each
invariant-each l = record {
  counted : numbered_front (l.letter ∷ []) 1 l.procs ≡ l.count + numbered_front (l.letter ∷ []) (l.count + 1) (drop l.proc-index l.procs);
  place : l.count ≡ l.proc-index;
}
