use Rattle.std.proofs.Common.{sym, ap, ◌∙◌}
use Rattle.containers.proofs.BagsOfAscending.{list_is}
use Rattle.containers.proofs.num_bag.NumBag.items.Goals as goal

pub returns : goal.returns
returns c = c.of.ensures ∙ c.in_ok-share.ensures ∙ sym (list_is _ c.self.invariant) ∙ ap (λ b. b.list) c.self.view_is
