use Rattle.std.proofs.Common.{◌≡◌, take}
use Rattle.containers.proofs.MapsOfRising.{keys}
use Rattle.containers.proofs.num_map.NumMap.keys.Given as goal

abbrev pub invariant-loop-pair : goal.invariant-loop-pair
invariant-loop-pair l = l.keys.items ≡ keys (take l.pair-index l.pair-items)
