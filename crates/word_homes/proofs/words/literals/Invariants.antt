use Rattle.std.proofs.Common.{◌≡◌, ◌++◌, drop}
use Rattle.prints.specs.Homes as h
use Rattle.word_homes.proofs.words.literals.Given as goal

abbrev pub invariant-each : goal.invariant-each
invariant-each l = l.words ++ h.literals (drop l.number-index l.numbers) ≡ l.initial.words ++ h.literals l.numbers
