use Rattle.std.proofs.Common.{◌≡◌, ◌∙◌}
use Rattle.nres_core.specs.Mirror.{exp_of}
use Rattle.nres_core.specs.Runs.{◌>>=◌, first_path}
use Rattle.nres_core.specs.declared.tree.Expr.{Expr}
use Rattle.nres_meaning.specs.Meaning.{exp_runs}
use Rattle.nres_meaning.specs.WordOperations.{op_named}
use Rattle.nres_eval.proofs.Between.{between_path}
use Rattle.nres_eval.proofs.Paths.{next, stop, told}
use Rattle.nres_eval.proofs.parts.least_between.Goals as goal

pub returns-in_err-low : goal.returns-in_err-low
returns-in_err-low c = stop _ _ _ _ (between_path c.args.line c.args.env.now c.args.low.now c.args.high.now) c.from_residual.ensures.1 c.in_err-low.ensures

pub returns-in_err-high : goal.returns-in_err-high
returns-in_err-high c = stop _ _ _ _ (next _ (between_path c.args.line c.args.env.now c.args.low.now c.args.high.now) c.in_ok-low.ensures) c.from_residual-in_err-high.ensures.1 c.in_err-high.ensures

pub returns : goal.returns
returns c = told _ (next _ (next _ (between_path c.args.line c.args.env.now c.args.low.now c.args.high.now) c.in_ok-low.ensures) c.in_ok-high.ensures) c.least.ensures
