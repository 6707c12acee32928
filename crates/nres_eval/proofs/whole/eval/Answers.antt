use Rattle.std.proofs.Common.{sym, ◌∙◌}
use Rattle.nres_core.specs.Mirror.{blk_of, named_params}
use Rattle.nres_core.specs.Runs.{first_path}
use Rattle.nres_meaning.specs.Meaning.{blk_runs, bound}
use Rattle.nres_meaning.specs.WordOperations.{op_named}
use Rattle.nres_eval.specs.Calls.{calls_of}
use Rattle.nres_eval.proofs.Paths.{told}
use Rattle.nres_eval.proofs.whole.eval.Goals as goal

pub returns : goal.returns
returns c =
    let funs = sym (c.in_ok-new.ensures ∙ c.as_slice.ensures) in
    let env = sym (c.in_ok-bind_params.ensures ∙ (λ i. bound (named_params (c.as_slice-2.ensures i)) c.args.args.now (c.new-env.ensures i))) in
    told _ (λ i. first_path (blk_runs op_named c.args.turns (calls_of (funs i) c.args.turns 32) (blk_of c.args.spec.now.body) (env i))) c.block.ensures.runs
