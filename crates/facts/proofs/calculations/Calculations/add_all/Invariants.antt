use Rattle.std.proofs.Common.{◌≡◌, drop}
use Rattle.nres_core.specs.FlatTree.{binds_of}
use Rattle.rule_check.specs.Facts.{defs_in}
use Rattle.facts.proofs.calculations.Calculations.add_all.Given as goal

abbrev pub invariant-each : goal.invariant-each
invariant-each l = defs_in (binds_of l.binds) l.initial.self ≡ defs_in (binds_of (drop l.bind-index l.binds)) l.self
