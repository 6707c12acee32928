use Rattle.std.proofs.Common.{◌≡◌, drop}
use Rattle.nres_rules.specs.Identify.{id_exps}
use Rattle.nres_core.specs.Mirror.{all_exps}
use Rattle.op_identify.specs.Fronts.{behind_exps}
use Rattle.op_identify.proofs.expr.+expr.Given as goal

abbrev pub invariant-exprs-each : goal.invariant-exprs-each
invariant-exprs-each l = behind_exps l.all (id_exps (all_exps (drop l.tree-index l.trees)) l.ops) ≡ id_exps (all_exps l.trees) l.initial.ops
