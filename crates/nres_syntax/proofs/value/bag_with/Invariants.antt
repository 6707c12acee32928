use Rattle.std.proofs.Common.{◌≡◌, take}
use Rattle.std.specs.FinMap as maps
use Rattle.std.specs.FinSet as sets
use Rattle.containers.specs.Bag.{bag_of}
use Rattle.nres_core.specs.Texts.{put_all}
use Rattle.nres_syntax.proofs.value.bag_with.Given as goal

abbrev pub invariant-loop-number : goal.invariant-loop-number
invariant-loop-number l = l.bag ≡ bag_of (take l.number-index l.numbers)
