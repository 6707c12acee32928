use Rattle.std.proofs.Common.{◌≡◌, ◌++◌, drop}
use Rattle.rule_check.specs.Check.{owed}
use Rattle.body_rules.proofs.owing.owed.Given as goal

abbrev pub invariant-each : goal.invariant-each
invariant-each l = l.slices ++ owed l.variable (drop l.param-index l.params) ≡ owed l.fn.first l.params
