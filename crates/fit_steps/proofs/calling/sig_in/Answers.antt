use Rattle.std.proofs.Common.{ap, ◌∙◌}
use Rattle.std.specs.Prelude.{Option, Some}
use Rattle.fit_steps.proofs.UseLemmas.{shown, sig_found}
use Rattle.rule_check.specs.Steps.{Sig}
use Rattle.fit_steps.proofs.calling.sig_in.Goals as goal

pub returns-in-Some : goal.returns-in-Some
returns-in-Some c =
    let g : Sig → Option Sig = λ z. Some z in
    ap g c.sig_of.ensures ∙ ap shown c.in-Some.ensures ∙ sig_found c.args.funs.now c.args.fun

pub returns-in-None : goal.returns-in-None
returns-in-None c = ap shown c.in-None.ensures ∙ sig_found c.args.funs.now c.args.fun
