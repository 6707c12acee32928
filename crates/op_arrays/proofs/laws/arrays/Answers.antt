use Rattle.op_arrays.proofs.ArraysLemmas.{array_laws}
use Rattle.op_arrays.proofs.laws.arrays.Goals as goal

pub returns : goal.returns
returns c = array_laws
