use Rattle.std.proofs.Common.{sym, ap, ◌∙◌}
use Rattle.std.proofs.lemmas.List.{take_all}
use Rattle.std.specs.FinMap as maps
use Rattle.containers.proofs.MapsOfRising.{keys, entries_of}
use Rattle.containers.proofs.num_map.NumMap.keys.Goals as goal

pub returns : goal.returns
returns c =
    let is = sym (entries_of _ c.self.invariant) ∙ ap (λ m. maps.entries m) c.self.view_is in
    c.of.ensures ∙ c.in_ok-keys.ensures ∙ c.as_slice.ensures.value ∙ c.loop-pair.invariant
    ∙ ap (λ es. keys es) (take_all _ _ c.loop-pair-test.false ∙ c.deref-pair-items.ensures.value ∙ c.in_ok-pairs.ensures ∙ is)
