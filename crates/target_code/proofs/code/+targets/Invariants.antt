use Rattle.std.proofs.Common.{◌≡◌, drop, map}
use Rattle.target_code.specs.Lines.{all_true, code_passes, instr_passes, has_distinct_targets}
use Rattle.target_code.proofs.code.+targets.Given as goal

abbrev pub invariant-targets_distinct-loop-item : goal.invariant-targets_distinct-loop-item
invariant-targets_distinct-loop-item l = code_passes has_distinct_targets l.code ≡ all_true (map (instr_passes has_distinct_targets) (drop l.item-index l.item-items))
