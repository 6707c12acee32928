use Rattle.std.proofs.Common.{◌≡◌, drop, map}
use Rattle.target_code.specs.Lines.{all_nest, code_nests, instr_nests}
use Rattle.target_code.proofs.code.+nests.Given as goal

abbrev pub invariant-code_nests-loop-item : goal.invariant-code_nests-loop-item
invariant-code_nests-loop-item l = code_nests l.code l.opened ≡ all_nest l.opened (map instr_nests (drop l.item-index l.item-items))
