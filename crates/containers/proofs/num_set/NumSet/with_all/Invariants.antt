use Rattle.std.proofs.Common.{◌≡◌, take}
use Rattle.containers.specs.Sets as sets
use Rattle.containers.proofs.num_set.NumSet.with_all.Given as goal

abbrev pub invariant-loop-number : goal.invariant-loop-number
invariant-loop-number l = l.all ≡ sets.union l.self (sets.from_list (take l.number-index l.number-items))
