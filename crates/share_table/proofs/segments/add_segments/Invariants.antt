use Rattle.std.proofs.Common.{◌≤◌, ◌-◌}
use Rattle.share_table.specs.Segments.{Segments}
use Rattle.share_table.proofs.segments.add_segments.Given as goal

abbrev pub invariant-segments : goal.invariant-segments
invariant-segments l =
    Segments l.entries l.taking l.taking.first l.place l.fn.table.items l.table.items × (l.taking.first ≤ l.place) × (l.place ≤ l.taking.end)

abbrev pub decreases-segments : goal.decreases-segments
decreases-segments l = l.taking.end - l.place
