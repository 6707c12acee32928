use Rattle.std.proofs.Common.{◌≡◌, ◌++◌, take}
use Rattle.std.specs.List.{flat_map}
use Rattle.value_print.proofs.Joined.{number_behind}
use Rattle.value_print.proofs.elements.numbers.Given as goal

abbrev pub invariant-each : goal.invariant-each
invariant-each l = l.out.items ≡ l.initial.out.items ++ flat_map number_behind (take l.other-index l.others)
