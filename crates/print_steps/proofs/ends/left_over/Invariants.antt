use Rattle.std.proofs.Common.{◌-◌}
use Rattle.print_steps.proofs.ends.left_over.Given as goal

abbrev pub decreases-each : goal.decreases-each
decreases-each l = l.index - l.count
