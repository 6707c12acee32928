use Rattle.relations.proofs.Others.{no_bits}
use Rattle.relations.proofs.laws.no_bits.Goals as goal

pub returns : goal.returns
returns c = no_bits
