use Rattle.std.proofs.Common.{length}
use Rattle.row_index.proofs.fitting.+bounds_are.Given as goal

abbrev pub decreases-bounds_are : goal.decreases-bounds_are
decreases-bounds_are l = length l.reps.now
