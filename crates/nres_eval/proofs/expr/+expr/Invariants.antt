use Rattle.std.proofs.Common.{◌≡◌, drop}
use Rattle.nres_core.specs.Mirror.{all_exps}
use Rattle.nres_core.specs.Runs.{first_path}
use Rattle.nres_meaning.specs.Meaning.{exps_runs}
use Rattle.nres_meaning.specs.WordOperations.{op_named}
use Rattle.nres_eval.specs.Ends.{onto}
use Rattle.nres_eval.proofs.expr.+expr.Given as goal

abbrev pub invariant-exprs-loop-tree : goal.invariant-exprs-loop-tree
invariant-exprs-loop-tree l = first_path (exps_runs op_named (all_exps l.trees) l.line l.env) ≡ onto l.values (first_path (exps_runs op_named (all_exps (drop l.tree-index l.trees)) l.line l.env))
