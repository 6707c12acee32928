use Rattle.std.proofs.Common.{ap, ◌∙◌}
use Rattle.std.specs.Prelude.{Option, Some}
use Rattle.rule_check.specs.Steps.{Sig}
use Rattle.rule_walk.proofs.WalkLemmas.{shown, sig_found}
use Rattle.rule_walk.proofs.book.sig_in.Goals as goal

pub returns-in-Some : goal.returns-in-Some
returns-in-Some c =
    let g : Sig → Option Sig = λ z. Some z in
    ap g c.sig_of.ensures ∙ ap shown c.in-Some.ensures ∙ sig_found c.args.book.now.funs.now c.args.fun

pub returns-in-None : goal.returns-in-None
returns-in-None c = ap shown c.in-None.ensures ∙ sig_found c.args.book.now.funs.now c.args.fun
