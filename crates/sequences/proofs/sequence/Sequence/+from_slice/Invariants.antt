use Rattle.std.proofs.Common.{length}
use Rattle.sequences.proofs.sequence.Sequence.+from_slice.Given as goal

abbrev pub decreases-from_slice : goal.decreases-from_slice
decreases-from_slice g l = length l.items.now
