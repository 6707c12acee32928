use Rattle.std.specs.Prelude.{T}
use Rattle.std.proofs.Common.{drop, sym, ap, subst, ◌∙◌}
use Rattle.containers.specs.Bag.{rises_from, bag_of}
use Rattle.containers.proofs.BagsOfAscending.{list_is, remove_first, rest_rises}
use Rattle.containers.proofs.num_bag.NumBag.without_least.Goals as goal

pub invariant_of-result : goal.invariant_of-result
invariant_of-result c =
    let xs = c.self.inside.numbers in
    subst (λ ys. T (rises_from 0 ys)) (sym c.in_ok-with_removed.ensures) (rest_rises xs c.self.invariant)

pub returns : goal.returns
returns c =
    let xs = c.self.inside.numbers in
    ap (λ ys. bag_of ys) (c.in_ok-with_removed.ensures ∙ remove_first xs ∙ ap (λ ys. drop 1 ys) (sym (list_is xs c.self.invariant)))
    ∙ ap (λ b. bag_of (drop 1 b.list)) c.self.view_is
