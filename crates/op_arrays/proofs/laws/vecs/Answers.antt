use Rattle.op_arrays.proofs.VecsLemmas.{vec_laws}
use Rattle.op_arrays.proofs.laws.vecs.Goals as goal

pub returns : goal.returns
returns c = vec_laws
