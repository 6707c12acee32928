use Rattle.std.proofs.Common.{◌∙◌, sym, ap}
use Rattle.rule_check.specs.Facts.{knows}
use Rattle.facts.proofs.KnownLemmas.{at_most, below_least}
use Rattle.facts.proofs.known.Facts.knows.Goals as goal

pub returns-in-Some : goal.returns-in-Some
returns-in-Some c =
    ap (λ o. at_most o c.args.bound) c.in-Some.ensures ∙ sym (below_least c.args.self.now c.in-Var.var c.args.bound) ∙ ap (λ u. knows c.args.self.now u c.args.bound) (sym c.in-Var.is)

pub returns-in-None : goal.returns-in-None
returns-in-None c =
    ap (λ o. at_most o c.args.bound) c.in-None.ensures ∙ sym (below_least c.args.self.now c.in-Var.var c.args.bound) ∙ ap (λ u. knows c.args.self.now u c.args.bound) (sym c.in-Var.is)
