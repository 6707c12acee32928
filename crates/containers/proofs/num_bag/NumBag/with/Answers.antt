use Rattle.std.specs.Prelude.{T}
use Rattle.std.proofs.Common.{insert, sym, ap, subst, ◌∙◌}
use Rattle.containers.specs.Bag.{rises_from, bag_of, added}
use Rattle.containers.proofs.BagsOfAscending.{insert_rises, insert_bag, counted}
use Rattle.containers.proofs.num_bag.NumBag.with.Goals as goal

pub invariant_of-result : goal.invariant_of-result
invariant_of-result c =
    let xs = c.self.inside.numbers in
    let k = c.args.number in
    let at = counted k xs _ c.self.invariant c.count_below-at.ensures.count in
    subst (λ ys. T (rises_from 0 ys)) (sym (c.in_ok-with_inserted.ensures ∙ ap (λ i. insert xs i k) at)) (insert_rises k xs c.self.invariant)

pub returns : goal.returns
returns c =
    let xs = c.self.inside.numbers in
    let k = c.args.number in
    let at = counted k xs _ c.self.invariant c.count_below-at.ensures.count in
    ap (λ ys. bag_of ys) (c.in_ok-with_inserted.ensures ∙ ap (λ i. insert xs i k) at) ∙ insert_bag k xs c.self.invariant ∙ ap (λ b. added b k) c.self.view_is
