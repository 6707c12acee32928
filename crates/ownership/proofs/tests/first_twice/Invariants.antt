use Rattle.std.proofs.Common.{◌≡◌, ◌≤◌, ℕ, nat_eq, drop, length}
use Rattle.indexmap.specs.IndexSet.{contains}
use Rattle.ownership.specs.Entries.{spots_of}
use Rattle.rule_check.specs.Context as d
use Rattle.ownership.proofs.tests.first_twice.Given as goal

abbrev pub invariant-each : goal.invariant-each
invariant-each l = record {
  within : l.index ≤ length l.entries;
  found : l.found ≡ d.first_twice (spots_of (drop l.index l.entries));
  behind : (v : ℕ) → contains nat_eq l.behind v ≡ d.stands v (spots_of (drop l.index l.entries));
}

abbrev pub decreases-each : goal.decreases-each
decreases-each l = l.index
