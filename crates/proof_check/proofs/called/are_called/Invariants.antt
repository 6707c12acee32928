use Rattle.std.proofs.Common.{◌≡◌, length}
use Rattle.unfit_line.specs.Tests.{is_nil, not_called}
use Rattle.proof_check.specs.Whole.{names_in, procs_at, seen}
use Rattle.proof_check.proofs.called.are_called.Given as goal

abbrev pub invariant-each : goal.invariant-each
invariant-each l = is_nil (not_called (length (procs_at l.rest.items)) (names_in l.known) (procs_at l.rest.items)) ≡ is_nil (not_called (length l.procs) (seen l.fn.names) l.procs)

abbrev pub decreases-each : goal.decreases-each
decreases-each l = length l.rest.items
