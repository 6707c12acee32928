use Rattle.std.proofs.Common.{◌∙◌, sym, ap, ◌∷◌, []}
use Rattle.std.specs.Option.{option_map}
use Rattle.context_laws.proofs.StacksLemmas.{none_falls, nothing_falls, one_falls}
use Rattle.context_laws.specs.Stacks.{falls_at, holding}
use Rattle.context_laws.specs.Steps.{with_spots}
use Rattle.ownership.proofs.ContextLemmas.{ok_with}
use Rattle.ownership.specs.Entries.{spot_of}
use Rattle.rule_check.specs.Context.{Gone}
use Rattle.ownership.proofs.context.Context.go_at.Goals as goal

pub returns-in_default-clause-ok : goal.returns-in_default-clause-ok
returns-in_default-clause-ok c = sym (ap (with_spots c.args.self.now) (nothing_falls c.args.index c.args.self.now.spots (sym c.get.ensures ∙ ap (option_map spot_of) c.in_default.is)))

pub returns-then-is_free-clause-ok : goal.returns-then-is_free-clause-ok
returns-then-is_free-clause-ok c = ok_with c.fell.result c.args.self.now c.fell.new.self (holding c.args.index Gone c.args.self.now.spots) (falls_at (c.args.index ∷ []) c.args.self.now.spots) c.fell.ensures.ok
    (sym (one_falls c.args.index c.args.self.now.spots (spot_of c.in-Some.entry) (sym c.get.ensures ∙ ap (option_map spot_of) c.in-Some.is) (sym c.is_free.ensures ∙ c.if-is_free.true)))

pub returns-else-is_free-clause-ok : goal.returns-else-is_free-clause-ok
returns-else-is_free-clause-ok c = sym (ap (with_spots c.args.self.now) (none_falls c.args.index c.args.self.now.spots (spot_of c.in-Some.entry) (sym c.get.ensures ∙ ap (option_map spot_of) c.in-Some.is) (sym c.is_free.ensures ∙ c.if-is_free.false)))
