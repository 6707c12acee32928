use Rattle.std.proofs.Common.{◌≡◌, ◌++◌, take}
use Rattle.std.specs.List.{flat_map}
use Rattle.target_text.specs.Parts.{instr_lines_text}
use Rattle.target_text.proofs.printing.+print.Given as goal

abbrev pub invariant-code-loop-item : goal.invariant-code-loop-item
invariant-code-loop-item l = l.out.items ≡ l.initial.out.items ++ flat_map (instr_lines_text l.lends l.level) (take l.item-index l.item-items)
