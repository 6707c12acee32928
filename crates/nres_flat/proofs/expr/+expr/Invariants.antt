use Rattle.std.proofs.Common.{drop, length}
use Rattle.nres_core.specs.FlatTree.{binds_of}
use Rattle.nres_rules.specs.Flatten.{flat_exps}
use Rattle.nres_core.specs.Mirror.{all_id_exps}
use Rattle.nres_flat.specs.Adding.{Ahead}
use Rattle.nres_flat.proofs.expr.+expr.Given as goal

abbrev pub invariant-exprs-each : goal.invariant-exprs-each
invariant-exprs-each l =
    Ahead (flat_exps (all_id_exps l.trees) l.scope (length l.initial.names)) l.args (flat_exps (all_id_exps (drop l.tree-index l.trees)) l.scope (length l.names))
    (binds_of l.initial.binds) (binds_of l.binds) l.initial.names l.names
