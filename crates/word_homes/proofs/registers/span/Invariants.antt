use Rattle.std.proofs.Common.{◌≡◌, ◌++◌, ◌-◌}
use Rattle.prints.specs.Homes as h
use Rattle.word_homes.proofs.registers.span.Given as goal

abbrev pub invariant-each : goal.invariant-each
invariant-each l = l.regs ++ h.span l.next (l.count - l.counter) ≡ l.initial.regs ++ h.span l.first l.count
