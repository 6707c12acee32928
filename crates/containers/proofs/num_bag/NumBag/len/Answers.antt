use Rattle.std.proofs.Common.{length, sym, ap, ◌∙◌}
use Rattle.containers.proofs.BagsOfAscending.{list_is}
use Rattle.containers.proofs.num_bag.NumBag.len.Goals as goal

pub returns : goal.returns
returns c = c.len.ensures ∙ ap (λ xs. length xs) (sym (list_is _ c.self.invariant)) ∙ ap (λ b. length b.list) c.self.view_is
