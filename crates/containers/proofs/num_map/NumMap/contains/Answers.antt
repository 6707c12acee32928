use Rattle.std.proofs.Common.{sym, ap, ◌∙◌}
use Rattle.std.specs.FinMap as maps
use Rattle.containers.proofs.SetsOfRising.{at_has}
use Rattle.containers.proofs.MapsOfRising.{keys, contains_has}
use Rattle.containers.proofs.num_map.NumMap.contains.Goals as goal

pub returns : goal.returns
returns c =
    let es = c.self.inside.pairs in
    let k = c.args.key in
    c.is_ok.ensures.value ∙ at_has k (keys es) c.search.result (c.search.ensures.place c.self.invariant) ∙ sym (contains_has k es) ∙ ap (λ m. maps.contains_key m k) c.self.view_is
