use Rattle.std.proofs.Common.{remove, sym, ap, subst, ◌∙◌}
use Rattle.std.specs.FinMap as maps
use Rattle.std.specs.FinMap.{from_entries}
use Rattle.sequences.specs.Keys.{IsRising}
use Rattle.containers.proofs.SetsOfRising.{at_ok, at_err, is_also}
use Rattle.containers.proofs.MapsOfRising.{keys, remove_rises, remove_map, remove_missing}
use Rattle.containers.proofs.num_map.NumMap.without.Goals as goal

pub invariant_of-result : goal.invariant_of-result
invariant_of-result c =
    let es = c.self.inside.pairs in
    subst (λ fs. IsRising (keys fs)) (sym c.in_ok-with_removed-in-Ok.ensures) (remove_rises _ es c.self.invariant)

pub returns-in-Err : goal.returns-in-Err
returns-in-Err c =
    let es = c.self.inside.pairs in
    let k = c.args.key in
    let s = at_err k (keys es) _ (c.in-Err.ensures.place c.self.invariant) in
    is_also c.share.result c.share.ensures (sym (ap (λ m. maps.remove m k) (sym c.self.view_is) ∙ remove_missing k es s.has_is ∙ c.self.view_is))

pub returns-in_ok-with_removed-in-Ok : goal.returns-in_ok-with_removed-in-Ok
returns-in_ok-with_removed-in-Ok c =
    let es = c.self.inside.pairs in
    let k = c.args.key in
    let s = at_ok k (keys es) _ (c.in-Ok.ensures.place c.self.invariant) in
    ap (λ fs. from_entries fs) (c.in_ok-with_removed-in-Ok.ensures ∙ ap (λ i. remove es i) s.at_is) ∙ remove_map k es c.self.invariant s.has_is ∙ ap (λ m. maps.remove m k) c.self.view_is
