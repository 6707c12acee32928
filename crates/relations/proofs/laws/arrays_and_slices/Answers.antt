use Rattle.relations.proofs.Layouts.{arrays_and_slices}
use Rattle.relations.proofs.laws.arrays_and_slices.Goals as goal

pub returns : goal.returns
returns c = arrays_and_slices
