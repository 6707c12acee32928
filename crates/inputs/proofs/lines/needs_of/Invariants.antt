use Rattle.std.proofs.Common.{◌≡◌, ◌≤◌, drop, length}
use Rattle.inputs.specs.Kept.{asked}
use Rattle.inputs.proofs.lines.needs_of.Given as goal

abbrev pub invariant-loop-at : goal.invariant-loop-at
invariant-loop-at l = (l.at ≤ length l.wanted) × (l.needs ≡ asked (drop l.at l.wanted))

abbrev pub decreases-loop-at : goal.decreases-loop-at
decreases-loop-at l = l.at
