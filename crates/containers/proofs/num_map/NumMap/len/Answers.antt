use Rattle.std.proofs.Common.{sym, ap, ◌∙◌}
use Rattle.std.specs.FinMap as maps
use Rattle.containers.proofs.MapsOfRising.{len_of}
use Rattle.containers.proofs.num_map.NumMap.len.Goals as goal

pub returns : goal.returns
returns c = c.len.ensures ∙ sym (len_of _ c.self.invariant) ∙ ap (λ m. maps.len m) c.self.view_is
