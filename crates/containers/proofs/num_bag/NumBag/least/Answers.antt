use Rattle.std.proofs.Common.{slice_get, sym, ap, ◌∙◌}
use Rattle.containers.proofs.BagsOfAscending.{list_is}
use Rattle.containers.proofs.num_bag.NumBag.least.Goals as goal

pub returns : goal.returns
returns c = c.get.ensures ∙ ap (λ xs. slice_get xs 0) (sym (list_is _ c.self.invariant) ∙ ap (λ b. b.list) c.self.view_is)
