use Rattle.std.proofs.Common.{◌≡◌, ◌++◌, ◌-◌}
use Rattle.prints.specs.Homes as h
use Rattle.word_homes.proofs.words.registers.Given as goal

abbrev pub invariant-each : goal.invariant-each
invariant-each l = l.words ++ h.registers (h.span l.next (l.count - l.counter)) ≡ l.initial.words ++ h.registers (h.span l.first l.count)
