use Rattle.nres_core.specs.Mirror.{exp_of}
use Rattle.nres_core.specs.Ops.{truth_runs}
use Rattle.nres_meaning.specs.Meaning.{exp_runs}
use Rattle.nres_meaning.specs.WordOperations.{op_named}
use Rattle.nres_eval.proofs.Paths.{first_bind, next, stop, told}
use Rattle.nres_eval.proofs.parts.holds.Goals as goal

pub returns-in_err-value : goal.returns-in_err-value
returns-in_err-value c = stop _ _ _ _ (first_bind (exp_runs op_named (exp_of c.args.test.now) c.args.line c.args.env.now) (truth_runs c.args.line)) c.from_residual.ensures.1 c.in_err-value.ensures

pub returns : goal.returns
returns c = told _ (next _ (first_bind (exp_runs op_named (exp_of c.args.test.now) c.args.line c.args.env.now) (truth_runs c.args.line)) c.in_ok-value.ensures) c.truth.ensures
