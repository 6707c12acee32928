use Rattle.std.proofs.Common.{◌≤◌, ◌∙◌, sym, subst}
use Rattle.body_rules.proofs.BodyLemmas.{are_past}
use Rattle.body_rules.proofs.owing.astray.Goals as goal

pub returns : goal.returns
returns c = sym (are_past c.each.left.now c.args.shown.now c.args.results.now c.each.index (subst (λ n. n ≤ c.each.index) c.min-count.ensures c.each-test.false)) ∙ c.each.invariant
