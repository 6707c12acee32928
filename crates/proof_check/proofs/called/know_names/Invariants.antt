use Rattle.std.proofs.Common.{◌≡◌, ◌||◌, List, ℕ, drop}
use Rattle.unfit_line.specs.Tests.{is_in}
use Rattle.proof_check.specs.Whole.{names_in, seen}
use Rattle.proof_check.proofs.called.know_names.Given as goal

abbrev pub invariant-each : goal.invariant-each
invariant-each l = (x : List ℕ) → (is_in x (seen (drop l.name-index l.names)) || is_in x (names_in l.known)) ≡ (is_in x (seen l.names) || is_in x (names_in l.initial.known))
