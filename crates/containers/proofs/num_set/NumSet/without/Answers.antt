use Rattle.std.proofs.Common.{remove, sym, ap, subst, ◌∙◌}
use Rattle.std.specs.FinSet as sets
use Rattle.std.specs.FinSet.{from_list}
use Rattle.sequences.specs.Keys.{IsRising}
use Rattle.containers.proofs.SetsOfRising.{says_ok, says_err, rising_remove, remove_set, remove_not_there, is_also}
use Rattle.containers.proofs.num_set.NumSet.without.Goals as goal

pub invariant_of-result : goal.invariant_of-result
invariant_of-result c =
    let xs = c.self.inside.numbers in
    subst IsRising (sym c.in_ok-with_removed-in-Ok.ensures) (rising_remove _ xs c.self.invariant)

pub returns-in-Err : goal.returns-in-Err
returns-in-Err c =
    let xs = c.self.inside.numbers in
    let k = c.args.number in
    let s = says_err k xs _ c.self.invariant c.in-Err.ensures.place in
    is_also c.share.result c.share.ensures (sym (ap (λ s. sets.remove s k) (sym c.self.view_is) ∙ remove_not_there xs k s.has_is ∙ c.self.view_is))

pub returns-in_ok-with_removed-in-Ok : goal.returns-in_ok-with_removed-in-Ok
returns-in_ok-with_removed-in-Ok c =
    let xs = c.self.inside.numbers in
    let k = c.args.number in
    let s = says_ok k xs _ c.self.invariant c.in-Ok.ensures.place in
    ap (λ ys. from_list ys) (c.in_ok-with_removed-in-Ok.ensures ∙ ap (λ i. remove xs i) s.at_is) ∙ remove_set xs k c.self.invariant s.has_is ∙ ap (λ s. sets.remove s k) c.self.view_is
