use Rattle.std.proofs.Common.{◌≡◌, drop}
use Rattle.rule_check.specs.Context.{is_among}
use Rattle.fit_walk.proofs.body.is_among.Given as goal

abbrev pub invariant-each : goal.invariant-each
invariant-each l = is_among l.var l.vars ≡ is_among l.var (drop l.other-index l.vars)
