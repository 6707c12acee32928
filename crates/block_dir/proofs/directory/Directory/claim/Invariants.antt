use Rattle.std.proofs.Common.{◌+◌, ◌-◌, ◌≡◌, ◌≤◌, ◌<◌, ◌⊎◌}
use Rattle.block_dir.specs.Views.{walked}
use Rattle.block_dir.specs.Calls.{view, seat_of}
use Rattle.block_dir.specs.Rule.{Kept}
use Rattle.block_dir.proofs.directory.Directory.claim.Given as goal

abbrev pub invariant-loop-seat : goal.invariant-loop-seat
invariant-loop-seat l = record {
  same : seat_of l.seat ≡ seat_of l.initial.seat;
  on : l.initial.seat.position ≤ l.seat.position;
  walk : view l.seat ≡ walked l.seat.position (view l.initial.seat);
  stays : l.self.cap < l.initial.seat.position + l.len → view l.seat ≡ view l.initial.seat;
  ruled : (view l.seat ≡ view l.initial.seat) ⊎ Kept (view l.seat);
}

abbrev pub decreases-loop-seat : goal.decreases-loop-seat
decreases-loop-seat l = l.last + 1 - l.seat.position
