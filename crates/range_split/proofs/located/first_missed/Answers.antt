use Rattle.std.proofs.Common.{ap, ◌∙◌, sym}
use Rattle.range_split.specs.Places.{oldest_gone, picked}
use Rattle.range_split.proofs.PlacesLemmas.{missed_oldest}
use Rattle.range_split.proofs.located.first_missed.Goals as goal

pub returns : goal.returns
returns c =
    c.missed_at.ensures ∙ ap (λ z. oldest_gone (picked z c.args.context.now.spots)) c.as_slice.ensures.value
    ∙ sym (missed_oldest c.args.uses.now c.in_ok-places.places.items c.args.context.now.spots c.in_ok-places.ensures.there)
