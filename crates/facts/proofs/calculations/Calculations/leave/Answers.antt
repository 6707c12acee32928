use Rattle.std.proofs.Common.{◌∙◌, ◌-◌, [], ap, drop, length, subst, sym}
use Rattle.facts.specs.Stacks.{defs_of, AllCover}
use Rattle.facts.proofs.StackLemmas.{cover_take, defs_left}
use Rattle.facts.proofs.calculations.Calculations.leave.Goals as goal

pub invariant_of-self : goal.invariant_of-self
invariant_of-self c = subst (λ s. AllCover s []) (sym c.truncate.ensures.items) (cover_take c.args.mark c.self.inside.list.items [] c.self.invariant)

pub returns : goal.returns
returns c = ap (λ s. defs_of s []) c.truncate.ensures.items ∙ defs_left c.args.mark c.self.inside.list.items ∙ ap (λ ds. drop (length ds - c.args.mark) ds) c.self.view_is
