use Rattle.std.proofs.Common.{◌≡◌, ◌++◌, take}
use Rattle.std.specs.List.{flat_map}
use Rattle.nres_print.specs.Blocks.{fun_text}
use Rattle.nres_print.proofs.blocks.funs.Given as goal

abbrev pub invariant-each : goal.invariant-each
invariant-each l = l.out.items ≡ l.initial.out.items ++ flat_map fun_text (take l.item-index l.list)
