use Rattle.std.proofs.Common.{slice_get, sym, ap, ◌∙◌}
use Rattle.containers.specs.Sets as sets
use Rattle.containers.proofs.SetItems.{items-from_list}
use Rattle.containers.proofs.num_set.NumSet.least.Goals as goal

pub returns : goal.returns
returns c = c.get.ensures ∙ ap (λ xs. slice_get xs 0) (sym (items-from_list _ c.self.invariant) ∙ ap (λ s. sets.items s) c.self.view_is)
