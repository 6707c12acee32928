use Rattle.std.proofs.Common.{ap, ◌∙◌, sym}
use Rattle.nres_core.specs.Mirror.{exp_of}
use Rattle.nres_core.specs.Ops.{at_line}
use Rattle.nres_core.specs.Runs.{first_path}
use Rattle.nres_meaning.specs.Meaning.{exp_runs, parts_out, value_of}
use Rattle.nres_meaning.specs.WordOperations.{op_named}
use Rattle.nres_eval.proofs.Paths.{first_bind, next, stop, told}
use Rattle.nres_eval.proofs.parts.halves.Goals as goal

pub returns-in_err-at : goal.returns-in_err-at
returns-in_err-at c =
    stop _ _ _ _ (first_bind (exp_runs op_named (exp_of c.args.at.now) c.args.line c.args.env.now) (λ k. at_line c.args.line (parts_out (value_of c.args.env.now c.args.list.now) k))) c.from_residual.ensures.1 c.in_err-at.ensures

pub returns : goal.returns
returns c =
    told _ (next _ (first_bind (exp_runs op_named (exp_of c.args.at.now) c.args.line c.args.env.now) (λ k. at_line c.args.line (parts_out (value_of c.args.env.now c.args.list.now) k))) c.in_ok-at.ensures
    ∙ ap (λ z. first_path (at_line c.args.line (parts_out z c.in_ok-at.at))) (sym c.in_ok-list.ensures))
    c.split.ensures
