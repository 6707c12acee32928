use Rattle.std.proofs.Common.{◌≡◌, ◌||◌, List, ℕ, drop}
use Rattle.unfit_line.specs.Tests.{Names, all_in, is_in}
use Rattle.proof_check.specs.Whole.{names_in, seen}
use Rattle.proof_check.proofs.called.all_known.Given as goal

abbrev pub invariant-loop-name : goal.invariant-loop-name
invariant-loop-name l =
    (xs ys : Names) → ((x : List ℕ) → is_in x (names_in l.known) ≡ (is_in x xs || is_in x ys)) → all_in xs ys (seen l.names) ≡ all_in xs ys (seen (drop l.name-index l.names))
