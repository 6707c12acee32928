use Rattle.std.proofs.Common.{◌≡◌, IfOk, sym, ap, subst, ◌∙◌}
use Rattle.std.specs.FinMap as maps
use Rattle.containers.proofs.MapsOfRising.{entries_of}
use Rattle.containers.proofs.num_map.NumMap.entries.Goals as goal

pub returns : goal.returns
returns c =
    let is = sym (entries_of _ c.self.invariant) ∙ ap (λ m. maps.entries m) c.self.view_is in
    subst (λ es. IfOk c.to_vec.result (λ pairs. pairs.items ≡ es)) is c.to_vec.ensures
