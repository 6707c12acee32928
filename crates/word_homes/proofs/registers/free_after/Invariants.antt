use Rattle.std.proofs.Common.{◌≡◌, drop}
use Rattle.ownership.specs.Entries.{shapes_of}
use Rattle.prints.specs.Homes as h
use Rattle.word_homes.proofs.registers.free_after.Given as goal

abbrev pub invariant-each : goal.invariant-each
invariant-each l = h.free_after l.next (shapes_of (drop l.shape-index l.shapes)) ≡ h.free_after l.first (shapes_of l.shapes)
