use Rattle.std.proofs.Common.{◌≡◌, ◌++◌, drop}
use Rattle.nres_core.specs.FlatTree.{binds_of}
use Rattle.rule_check.specs.Use.{used}
use Rattle.uses.proofs.used.+used.Given as goal

abbrev pub invariant-in_binds-each : goal.invariant-in_binds-each
invariant-in_binds-each l = l.uses ++ used (binds_of (drop l.bind-index l.binds)) ≡ l.initial.uses ++ used (binds_of l.binds)
