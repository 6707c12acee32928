use Rattle.std.proofs.Common.{insert, sym, ap, subst, ◌∙◌}
use Rattle.std.specs.FinSet as sets
use Rattle.std.specs.FinSet.{from_list}
use Rattle.sequences.specs.Keys.{IsRising}
use Rattle.containers.proofs.SetsOfRising.{says_ok, says_err, rising_insert, insert_set, insert_there, is_also}
use Rattle.containers.proofs.num_set.NumSet.with.Goals as goal

pub invariant_of-result : goal.invariant_of-result
invariant_of-result c =
    let xs = c.self.inside.numbers in
    let k = c.args.number in
    let s = says_err k xs _ c.self.invariant c.in-Err.ensures.place in
    subst IsRising (sym (c.in_ok-with_inserted-in-Err.ensures ∙ ap (λ i. insert xs i k) s.at_is)) (rising_insert k xs c.self.invariant s.has_is)

pub returns-in-Ok : goal.returns-in-Ok
returns-in-Ok c =
    let xs = c.self.inside.numbers in
    let k = c.args.number in
    let s = says_ok k xs _ c.self.invariant c.in-Ok.ensures.place in
    is_also c.share.result c.share.ensures (sym (ap (λ s. sets.insert s k) (sym c.self.view_is) ∙ insert_there xs k s.has_is ∙ c.self.view_is))

pub returns-in_ok-with_inserted-in-Err : goal.returns-in_ok-with_inserted-in-Err
returns-in_ok-with_inserted-in-Err c =
    let xs = c.self.inside.numbers in
    let k = c.args.number in
    ap (λ ys. from_list ys) c.in_ok-with_inserted-in-Err.ensures ∙ insert_set xs _ k ∙ ap (λ s. sets.insert s k) c.self.view_is
