use Rattle.std.proofs.Common.{◌≡◌, ℕ, nat_eq, take}
use Rattle.indexmap.specs.IndexSet.{contains}
use Rattle.rule_check.specs.Context.{is_among}
use Rattle.range_split.proofs.branch.set_of.Given as goal

abbrev pub invariant-each : goal.invariant-each
invariant-each l = (v : ℕ) → contains nat_eq l.set v ≡ is_among v (take l.variable-index l.variables)
