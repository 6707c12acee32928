use Rattle.std.proofs.Common.{◌≡◌, length}
use Rattle.rule_check.specs.Context.{outer}
use Rattle.range_split.specs.Places.{Ascending, put_at}
use Rattle.range_split.proofs.branch.close_branch.Given as goal

abbrev pub invariant-each : goal.invariant-each
invariant-each l =
    (put_at l.left l.context.spots (outer (length l.left) l.branch.spots) ≡ put_at l.fn.places l.initial.context.spots (outer (length l.fn.places) l.branch.spots)) × (l.context.saved ≡ l.initial.context.saved)
    × Ascending l.left

abbrev pub decreases-each : goal.decreases-each
decreases-each l = length l.left
