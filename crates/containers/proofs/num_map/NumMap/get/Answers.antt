use Rattle.std.proofs.Common.{◌≡◌, slice_get, sym, ap, ◌∙◌}
use Rattle.std.specs.FinMap as maps
use Rattle.containers.proofs.SetsOfRising.{at_ok, at_err}
use Rattle.containers.proofs.MapsOfRising.{keys, value_of, get_there, get_missing}
use Rattle.containers.proofs.num_map.NumMap.get.Goals as goal

pub returns-in_default : goal.returns-in_default
returns-in_default c =
    let es = c.self.inside.pairs in
    let k = c.args.key in
    let s = at_err k (keys es) _ (c.in_default.ensures.place c.self.invariant) in
    sym (get_missing k es s.has_is) ∙ ap (λ m. maps.get m k) c.self.view_is

pub returns-in_err-value : goal.returns-in_err-value
returns-in_err-value c =
    let es = c.self.inside.pairs in
    let k = c.args.key in
    let s = at_ok k (keys es) _ (c.in-Ok.ensures.place c.self.invariant) in
    let found : value_of c.get.result ≡ maps.get c.args.self.now k =
    ap value_of c.get.ensures ∙ ap (λ i. value_of (slice_get es i)) s.at_is ∙ sym (get_there k es c.self.invariant s.has_is) ∙ ap (λ m. maps.get m k) c.self.view_is in
    c.from_residual.ensures ∙ sym (ap value_of c.in_err-value.was) ∙ found

pub returns : goal.returns
returns c =
    let es = c.self.inside.pairs in
    let k = c.args.key in
    let s = at_ok k (keys es) _ (c.in-Ok.ensures.place c.self.invariant) in
    let found : value_of c.get.result ≡ maps.get c.args.self.now k =
    ap value_of c.get.ensures ∙ ap (λ i. value_of (slice_get es i)) s.at_is ∙ sym (get_there k es c.self.invariant s.has_is) ∙ ap (λ m. maps.get m k) c.self.view_is in
    sym (ap value_of c.in_ok-value.was) ∙ found
