use Rattle.std.proofs.Common.{◌≡◌, drop}
use Rattle.nres_rules.specs.Identify.{id_steps}
use Rattle.nres_core.specs.Mirror.{all_steps}
use Rattle.op_identify.specs.Fronts.{behind_steps}
use Rattle.op_identify.proofs.block.+block.Given as goal

abbrev pub invariant-steps-each : goal.invariant-steps-each
invariant-steps-each l = behind_steps l.all (id_steps (all_steps (drop l.tree-index l.trees)) l.ops) ≡ id_steps (all_steps l.trees) l.initial.ops
