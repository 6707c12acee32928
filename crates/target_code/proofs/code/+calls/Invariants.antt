use Rattle.std.proofs.Common.{◌≡◌, drop, map}
use Rattle.target_code.specs.Lines.{all_true, code_passes, instr_passes, calls_met}
use Rattle.target_code.proofs.code.+calls.Given as goal

abbrev pub invariant-calls_met-loop-item : goal.invariant-calls_met-loop-item
invariant-calls_met-loop-item l = code_passes (calls_met l.procs) l.code ≡ all_true (map (instr_passes (calls_met l.procs)) (drop l.item-index l.item-items))
