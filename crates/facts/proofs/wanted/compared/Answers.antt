use Rattle.std.proofs.Common.{◌++◌, ◌∙◌, ap, sym}
use Rattle.rule_check.specs.Facts.{compared}
use Rattle.facts.specs.Kept.{told_of}
use Rattle.facts.proofs.ToldLemmas.{told_append}
use Rattle.facts.proofs.wanted.compared.Goals as goal

pub returns-in_ok-push-in-Var-Num : goal.returns-in_ok-push-in-Var-Num
returns-in_ok-push-in-Var-Num c =
    ap told_of c.in_ok-push-in-Var-Num.ensures.items ∙ told_append c.args.found.now.items (record { var = c.in-Var-Num.var; bound = c.in-Var-Num.bound })
    ∙ sym (λ i. told_of c.args.found.now.items ++ compared (c.in-Var-Num.is-0 i) (c.in-Var-Num.is-1 i))
