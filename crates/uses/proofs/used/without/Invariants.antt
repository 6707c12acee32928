use Rattle.std.proofs.Common.{◌≡◌, ◌++◌, drop}
use Rattle.rule_check.specs.Use.{without}
use Rattle.uses.proofs.used.without.Given as goal

abbrev pub invariant-each : goal.invariant-each
invariant-each l = l.others ++ without l.fn.variable (drop l.used-index l.uses) ≡ without l.fn.variable l.uses
