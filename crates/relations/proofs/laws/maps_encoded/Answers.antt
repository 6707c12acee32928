use Rattle.relations.proofs.EncodedMaps.{maps_encoded}
use Rattle.relations.proofs.laws.maps_encoded.Goals as goal

pub returns : goal.returns
returns c = maps_encoded
