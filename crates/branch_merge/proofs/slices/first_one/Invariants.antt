use Rattle.std.proofs.Common.{◌≡◌, take}
use Rattle.context_laws.specs.Meeting as meeting
use Rattle.branch_merge.proofs.slices.first_one.Given as goal

abbrev pub invariant-each : goal.invariant-each
invariant-each l = l.first ≡ meeting.first_one (take l.index-index l.indices) l.others l.context.spots
