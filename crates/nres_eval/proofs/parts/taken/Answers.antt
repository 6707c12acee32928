use Rattle.std.proofs.Common.{◌∙◌}
use Rattle.nres_eval.proofs.Between.{same_apply, take_path}
use Rattle.nres_eval.proofs.Paths.{next, stop, told}
use Rattle.nres_eval.proofs.parts.taken.Goals as goal

pub returns-in_err-args : goal.returns-in_err-args
returns-in_err-args c = stop _ _ _ _ (take_path c.args.line c.args.word.now c.args.env.now c.args.tree.now) c.from_residual.ensures.1 c.in_err-args.ensures

pub returns : goal.returns
returns c =
    told _ (next _ (take_path c.args.line c.args.word.now c.args.env.now c.args.tree.now) c.in_ok-args.ensures ∙ same_apply c.args.line c.args.word.now c.op_of-op.ensures c.as_slice.ensures c.as_slice-2.ensures)
    c.applied.ensures
