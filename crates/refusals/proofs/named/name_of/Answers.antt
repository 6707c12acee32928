use Rattle.std.proofs.Common.{◌≡◌, ap, sym, ◌∙◌, subst}
use Rattle.std.specs.Result.{IfOk}
use Rattle.refusals.proofs.NamedLemmas.{given, named}
use Rattle.refusals.proofs.named.name_of.Goals as goal

pub returns-in-Some : goal.returns-in-Some
returns-in-Some c =
    subst (λ s. IfOk c.copy.result (λ name. name ≡ s)) (ap given c.in-Some.ensures ∙ sym (named c.args.names.now c.args.variable)) c.copy.ensures

pub returns-in-None : goal.returns-in-None
returns-in-None c =
    subst (λ s. IfOk c.copied.result (λ name. name ≡ s)) (ap given c.in-None.ensures ∙ sym (named c.args.names.now c.args.variable)) c.copied.ensures
