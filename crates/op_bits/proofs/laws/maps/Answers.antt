use Rattle.op_bits.proofs.MapsLemmas.{map_laws}
use Rattle.op_bits.proofs.laws.maps.Goals as goal

pub returns : goal.returns
returns c = map_laws
