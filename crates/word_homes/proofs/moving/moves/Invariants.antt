use Rattle.std.proofs.Common.{◌≡◌, ◌++◌, drop}
use Rattle.prints.specs.Homes as h
use Rattle.word_homes.proofs.moving.moves.Given as goal

abbrev pub invariant-each : goal.invariant-each
invariant-each l = l.code ++ h.moves l.next (drop l.word-index l.words) ≡ l.initial.code ++ h.moves l.to l.words
