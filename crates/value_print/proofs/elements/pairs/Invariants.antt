use Rattle.std.proofs.Common.{◌≡◌, ◌++◌, take}
use Rattle.std.specs.List.{flat_map}
use Rattle.value_print.proofs.Joined.{pair_behind}
use Rattle.value_print.proofs.elements.pairs.Given as goal

abbrev pub invariant-each : goal.invariant-each
invariant-each l = l.out.items ≡ l.initial.out.items ++ flat_map pair_behind (take l.other-index l.others)
