use Rattle.std.proofs.Common.{◌≡◌, drop, map}
use Rattle.target_code.specs.Lines.{all_true, code_passes, instr_passes, is_below}
use Rattle.target_code.proofs.code.+below.Given as goal

abbrev pub invariant-code_below-loop-item : goal.invariant-code_below-loop-item
invariant-code_below-loop-item l = code_passes (is_below l.limit) l.code ≡ all_true (map (instr_passes (is_below l.limit)) (drop l.item-index l.item-items))
