use Rattle.std.proofs.Common.{◌≤◌, ◌-◌, length}
use Rattle.std.specs.Io.KnownBytes.{Consumes}
use Rattle.sep_io.proofs.transfer.read_all.Given as goal

-- the bytes are what was taken from the source, and faults were only added
abbrev pub invariant-loop-got : goal.invariant-loop-got
invariant-loop-got g l =
    (length l.bytes.items ≤ l.limit)
    × Consumes (g.S.Source.remaining l.fn.source) (g.S.Source.remaining l.source) l.bytes.items
    × (g.S.Source.faults l.fn.source ≤ g.S.Source.faults l.source)

abbrev pub decreases-loop-got : goal.decreases-loop-got
decreases-loop-got g l = l.limit - length l.bytes.items
