use Rattle.std.proofs.Common.{◌-◌, length}
use Rattle.print_blocks.proofs.either.cut_to.Given as goal

abbrev pub decreases-each : goal.decreases-each
decreases-each g l = length l.items - l.count
