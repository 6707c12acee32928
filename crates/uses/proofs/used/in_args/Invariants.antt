use Rattle.std.proofs.Common.{◌≡◌, ◌++◌, drop}
use Rattle.rule_check.specs.Use.{args_used}
use Rattle.uses.proofs.used.in_args.Given as goal

abbrev pub invariant-each : goal.invariant-each
invariant-each l = l.uses ++ args_used (drop l.arg-index l.args) ≡ l.initial.uses ++ args_used l.args
