use Rattle.std.proofs.Common.{◌≡◌, drop}
use Rattle.proof_check.specs.Whole.{first_place, names_in, procs_at}
use Rattle.proof_check.proofs.Needed.{later}
use Rattle.proof_check.proofs.called.first_known.Given as goal

abbrev pub invariant-each : goal.invariant-each
invariant-each l = record {
  place : first_place (names_in l.known) (procs_at l.procs) ≡ later l.place (first_place (names_in l.known) (procs_at (drop l.proc-index l.procs)));
  counted : l.place ≡ l.proc-index;
}
