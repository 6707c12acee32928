use Rattle.std.proofs.Common.{◌≡◌, ◌||◌, List, ℕ, drop}
use Rattle.soundness.specs.Shape.{names_of}
use Rattle.unfit_line.specs.Tests.{is_in}
use Rattle.proof_check.specs.Whole.{names_in}
use Rattle.proof_check.proofs.called.know_procs.Given as goal

abbrev pub invariant-each : goal.invariant-each
invariant-each l = (x : List ℕ) → (is_in x (names_of (drop l.proc-index l.procs)) || is_in x (names_in l.known)) ≡ (is_in x (names_of l.procs) || is_in x (names_in l.initial.known))
