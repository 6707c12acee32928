use Rattle.std.proofs.Common.{sym, ap, ◌∙◌}
use Rattle.containers.specs.Sets as sets
use Rattle.containers.proofs.SetItems.{items-from_list}
use Rattle.containers.proofs.num_set.NumSet.items.Goals as goal

pub returns : goal.returns
returns c = c.of.ensures ∙ c.in_ok-share.ensures ∙ sym (items-from_list _ c.self.invariant) ∙ ap (λ s. sets.items s) c.self.view_is
