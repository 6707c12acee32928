use Rattle.std.proofs.Common.{◌≡◌, ◌++◌, drop}
use Rattle.ownership.specs.Entries.{spots_of}
use Rattle.rule_check.specs.Steps.{handed}
use Rattle.proc_rules.proofs.call.handed.Given as goal

abbrev pub invariant-each : goal.invariant-each
invariant-each l = spots_of l.taken ++ handed (drop l.index l.params) (spots_of (drop l.index l.entries)) ≡ handed l.params (spots_of l.entries)
