use Rattle.std.proofs.Common.{ap, ◌∙◌}
use Rattle.containers.specs.Bag.{bag_of}
use Rattle.containers.proofs.BagsOfAscending.{none}
use Rattle.containers.proofs.num_bag.NumBag.new.Goals as goal

pub returns : goal.returns
returns c = ap (λ xs. bag_of xs) c.new.ensures ∙ none
