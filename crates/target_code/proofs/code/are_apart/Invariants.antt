use Rattle.std.proofs.Common.{◌≡◌, ◌++◌, length, nat_eq}
use Rattle.target_code.specs.Reserved.{are_distinct}
use Rattle.target_code.proofs.code.are_apart.Given as goal

abbrev pub invariant-loop-rest : goal.invariant-loop-rest
invariant-loop-rest l = are_distinct nat_eq (l.left ++ l.right) ≡ are_distinct nat_eq (l.rest ++ l.right)

abbrev pub decreases-loop-rest : goal.decreases-loop-rest
decreases-loop-rest l = length l.rest
