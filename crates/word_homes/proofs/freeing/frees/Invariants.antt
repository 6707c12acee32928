use Rattle.std.proofs.Common.{◌≡◌, ◌++◌, drop}
use Rattle.word_homes.specs.Words.{frees_at}
use Rattle.word_homes.proofs.freeing.frees.Given as goal

abbrev pub invariant-each : goal.invariant-each
invariant-each l = l.code ++ frees_at (drop l.home-index l.homes) ≡ l.initial.code ++ frees_at l.homes
