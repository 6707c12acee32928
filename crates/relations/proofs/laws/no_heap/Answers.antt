use Rattle.relations.proofs.Others.{no_heap}
use Rattle.relations.proofs.laws.no_heap.Goals as goal

pub returns : goal.returns
returns c = no_heap
