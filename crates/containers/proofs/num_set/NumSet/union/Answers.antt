use Rattle.containers.proofs.SetsOfRising.{is_also}
use Rattle.containers.proofs.SetItems.{union_turned}
use Rattle.containers.proofs.num_set.NumSet.union.Goals as goal

pub returns-then-len : goal.returns-then-len
returns-then-len c = is_also c.with_all.result c.with_all.ensures (union_turned _ _)
