use Rattle.std.proofs.Common.{◌≡◌, ◌++◌, drop}
use Rattle.ownership.specs.Entries.{shapes_of}
use Rattle.prints.specs.Homes as h
use Rattle.word_homes.proofs.registers.regs_all.Given as goal

abbrev pub invariant-each : goal.invariant-each
invariant-each l = l.regs ++ h.regs_all l.next (shapes_of (drop l.shape-index l.shapes)) ≡ h.regs_all l.first (shapes_of l.shapes)
