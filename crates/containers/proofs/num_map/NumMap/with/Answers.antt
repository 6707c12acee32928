use Rattle.std.proofs.Common.{set, insert, sym, ap, subst, ◌∙◌}
use Rattle.std.specs.FinMap as maps
use Rattle.std.specs.FinMap.{from_entries}
use Rattle.sequences.specs.Keys.{IsRising}
use Rattle.containers.proofs.SetsOfRising.{at_ok, at_err}
use Rattle.containers.proofs.MapsOfRising.{keys, set_rises, insert_rises, set_map, insert_map}
use Rattle.containers.proofs.num_map.NumMap.with.Goals as goal
use Rattle.containers.proofs.num_map.NumMap.with.Goals.{in-Ok+in_ok-pairs-in-Ok, in-Err+in_ok-pairs-in-Err}

pub invariant_of-result : goal.invariant_of-result
invariant_of-result c =
    let es = c.self.inside.pairs in
    let k = c.args.key in
    let v = c.args.value in
    elim c.match-search.branch [
      | in-Ok+in_ok-pairs-in-Ok w ↦
          let s = at_ok k (keys es) _ (w.in-Ok.ensures.place c.self.invariant) in
          let is = w.pairs-is ∙ w.in_ok-pairs-in-Ok.ensures ∙ ap (λ i. set es i (k, v)) s.at_is in
          subst (λ fs. IsRising (keys fs)) (sym is) (set_rises k v es c.self.invariant s.has_is)
      | in-Err+in_ok-pairs-in-Err w ↦
          let s = at_err k (keys es) _ (w.in-Err.ensures.place c.self.invariant) in
          let is = w.pairs-is ∙ w.in_ok-pairs-in-Err.ensures ∙ ap (λ i. insert es i (k, v)) s.at_is in
          subst (λ fs. IsRising (keys fs)) (sym is) (insert_rises k v es c.self.invariant s.has_is)
    ]

pub returns : goal.returns
returns c =
    let es = c.self.inside.pairs in
    let k = c.args.key in
    let v = c.args.value in
    elim c.match-search.branch [
      | in-Ok+in_ok-pairs-in-Ok w ↦
          let s = at_ok k (keys es) _ (w.in-Ok.ensures.place c.self.invariant) in
          let is = w.pairs-is ∙ w.in_ok-pairs-in-Ok.ensures ∙ ap (λ i. set es i (k, v)) s.at_is in
          ap (λ fs. from_entries fs) is ∙ set_map k v es c.self.invariant s.has_is ∙ ap (λ m. maps.insert m k v) c.self.view_is
      | in-Err+in_ok-pairs-in-Err w ↦
          let s = at_err k (keys es) _ (w.in-Err.ensures.place c.self.invariant) in
          let is = w.pairs-is ∙ w.in_ok-pairs-in-Err.ensures ∙ ap (λ i. insert es i (k, v)) s.at_is in
          ap (λ fs. from_entries fs) is ∙ insert_map k v es c.self.invariant s.has_is ∙ ap (λ m. maps.insert m k v) c.self.view_is
    ]
