use Rattle.std.proofs.Common.{◌≡◌, drop, map}
use Rattle.same_procs.specs.Same.{all_same, same_code, same_instr}
use Rattle.same_procs.proofs.same.+same.Given as goal

abbrev pub invariant-same_code-loop-item : goal.invariant-same_code-loop-item
invariant-same_code-loop-item l = same_code l.code l.other ≡ all_same (map same_instr (drop l.item-index l.item-items)) l.rest
