use Rattle.std.proofs.Common.{◌≡◌, ◌++◌, length}
use Rattle.range_split.proofs.located.listed.Given as goal

abbrev pub invariant-each : goal.invariant-each
invariant-each l = l.places.items ++ l.found.keys ≡ l.initial.found.keys

abbrev pub decreases-each : goal.decreases-each
decreases-each l = length l.found.keys
