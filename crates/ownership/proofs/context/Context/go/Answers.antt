use Rattle.std.proofs.Common.{◌∙◌, sym, ap, ◌∷◌, []}
use Rattle.context_laws.proofs.StacksLemmas.{go_falls, go_nowhere}
use Rattle.context_laws.specs.Stacks.{falls_at}
use Rattle.context_laws.specs.Steps.{with_spots}
use Rattle.ownership.proofs.ContextLemmas.{ok_with}
use Rattle.rule_check.specs.Context.{all_go}
use Rattle.ownership.proofs.context.Context.go.Goals as goal

pub returns-in-Some-clause-ok : goal.returns-in-Some-clause-ok
returns-in-Some-clause-ok c = ok_with c.go_at.result c.args.self.now c.go_at.new.self (falls_at (c.in-Some.index ∷ []) c.args.self.now.spots) (all_go (c.args.var ∷ []) c.args.self.now.spots) c.go_at.ensures.ok
    (sym (go_falls c.args.var c.in-Some.index c.args.self.now.spots c.index_of.ensures.differ (sym c.index_of.ensures.place ∙ c.in-Some.is)))

pub returns-in-None-clause-ok : goal.returns-in-None-clause-ok
returns-in-None-clause-ok c = sym (ap (with_spots c.args.self.now) (go_nowhere c.args.var c.args.self.now.spots (sym c.index_of.ensures.place ∙ c.in-None.is)))
