use Rattle.std.proofs.Common.{ap, ◌∙◌, sym, ◌∷◌, []}
use Rattle.nres_core.specs.Mirror.{exp_of}
use Rattle.nres_core.specs.Runs.{Done, Gave}
use Rattle.nres_meaning.specs.Meaning.{exp_runs}
use Rattle.nres_meaning.specs.WordOperations.{op_named}
use Rattle.nres_eval.proofs.Paths.{first_bind, next, stop}
use Rattle.nres_eval.proofs.parts.value.Goals as goal

pub returns-in_err-value : goal.returns-in_err-value
returns-in_err-value c = stop _ _ _ _ (first_bind (exp_runs op_named (exp_of c.args.tree.now) c.args.line c.args.env.now) (λ x. Done (x ∷ []))) c.from_residual.ensures.1 c.in_err-value.ensures

pub returns : goal.returns
returns c = next _ (first_bind (exp_runs op_named (exp_of c.args.tree.now) c.args.line c.args.env.now) (λ x. Done (x ∷ []))) c.in_ok-value.ensures ∙ ap Gave (sym c.in_ok-single.ensures)
