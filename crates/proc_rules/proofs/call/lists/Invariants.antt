use Rattle.std.proofs.Common.{◌≡◌, ◌++◌, drop}
use Rattle.ownership.specs.Entries.{shapes_of, spots_of}
use Rattle.rule_check.specs.Steps.{lists}
use Rattle.proc_rules.proofs.call.lists.Given as goal

abbrev pub invariant-each : goal.invariant-each
invariant-each l = shapes_of l.lists ++ lists (drop l.index l.params) (spots_of (drop l.index l.entries)) ≡ lists l.params (spots_of l.entries)
