use Rattle.std.proofs.Common.{drop}
use Rattle.nres_core.specs.Mirror.{all_exps}
use Rattle.nres_rules.specs.Types.{exps_type}
use Rattle.nres_types.specs.Findings.{told_of, Remains}
use Rattle.nres_types.proofs.exprs.+exprs.Given as goal

abbrev pub invariant-exprs-loop-tree : goal.invariant-exprs-loop-tree
invariant-exprs-loop-tree l =
    Remains (told_of l.fn.findings) (told_of l.findings) l.heads.items (exps_type (all_exps l.trees) l.scope) (exps_type (all_exps (drop l.tree-index l.trees)) l.scope)
