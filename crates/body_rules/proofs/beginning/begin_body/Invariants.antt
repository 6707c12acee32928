use Rattle.std.proofs.Common.{◌≡◌, drop}
use Rattle.rule_check.specs.Check.{param_spots}
use Rattle.body_rules.proofs.beginning.begin_body.Given as goal

abbrev pub invariant-each : goal.invariant-each
invariant-each l =
    (param_spots l.variable (drop l.param-index l.params) l.context.spots ≡ param_spots l.fn.first l.params l.initial.context.spots) × (l.context.saved ≡ l.initial.context.saved)
